-- A run of the event program: what is threaded from line to line, and what is handed over. No contract can say what the system's
-- readers give and its writers take: the lines are those of the bytes that reads brought; the sink counts what it was handed, and a writer that
-- says what it holds has it. That these are the system's bytes is tested (crates/replay). Assumes nothing.
use Rattle.std.specs.Prelude.{◌≡◌, ℕ, ◌+◌, ◌-◌, ◌<◌, ◌≤◌, cond, Option, List, [], ◌∷◌, ◌++◌, length, take, drop, replicate, ◌≢◌, nat_lt, Result, Ok, Err, IsOk, IfOk, OnOk}
use Rattle.text.specs.Place.{put}
use Rattle.text.specs.declared.print.Text.{Text}
use Rattle.streams.specs.Reading.{reader, Answer, Next}
use Rattle.streams.specs.Writing.{wrapped, hand_over, counted_by, Wrote}
use Rattle.streams.specs.declared.reader.Line.TheVariants.{At, End, Long}
use Rattle.streams.specs.declared.reader.Reader.{Reader}
use Rattle.streams.specs.declared.sink.NotWritten.{NotWritten}
use Rattle.streams.specs.declared.sink.Sink.{Sink}
use Rattle.streams.specs.declared.sink.Target.{Target}
use Rattle.script.specs.declared.reading.Want.TheVariants.{Mac}
use Rattle.script.specs.CardRules.{new_card}
use Rattle.script.specs.ReadingRules.{rank}
use Rattle.script.specs.StepRules.{step_of}
use Rattle.runner.specs.declared.RunError.{RunError}
use Rattle.runner.specs.declared.RunError.TheVariants.{NotWritten as Unwritten}
use Rattle.runner.specs.declared.Progress.{Progress}
use Rattle.runner.specs.OutputRules.{Ending, end_text, output_after, ending_after}

-- ---- what is gathered

-- as many bytes, or more, are handed over; there is room after fewer for what a line or the end of the output has
abbrev pub gathered : ℕ
gathered = 57344

abbrev pub Room : Text → Type 0
Room t = (t.at ≤ gathered) × (65536 ≤ length t.buf.now)

-- all of a text was put at `at`, and r is the place after it
pub record Whole (text out : List ℕ) (at r : ℕ) (out' : List ℕ) : Type 0 where
  pub is : out' ≡ put out at text
  pub place : r ≡ at + length text
  pub same : length out' ≡ length out
  pub within : r ≤ length out

-- the same, behind what is gathered
abbrev pub AddsWhole : List ℕ → Text → Text → Type 0
AddsWhole text t t' = Whole text t.buf.now t.at t'.at t'.buf.now

-- all that was gathered is handed over, and counted if that went well; or all of it is kept. The buffer holds what it held
pub record FlushedTo (before : Sink) (t : Text) (r : Result (Unit {0}) NotWritten) (after : Sink) (t' : Text) : Type 0 where
  pub place : IfOk r (λ n. t'.at ≡ cond (nat_lt t.at gathered) t.at 0)
  pub sink : after ≡ cond (nat_lt t.at gathered) before (counted_by r t.at before)
  pub well : t.at < gathered → IsOk r
  pub held : t'.buf.now ≡ t.buf.now

-- and the target: what was gathered up to `to` went there, if that went well, or nothing did
pub record Handed {W R A : Type 0} (holds : W → Option (List ℕ)) (before : Target W R) (to : ℕ) (out : List ℕ) (r : Result A NotWritten)
    (after : Target W R) : Type 0 where
  pub kept : to < gathered → after ≡ before
  pub wrote : gathered ≤ to → OnOk r (Wrote holds before after (take to out))

-- ---- a line

abbrev pub begun_run : Progress
begun_run = record { number = 1; want = Mac; card = new_card }

-- the line does what `step_of` says, and the next line has the next number
pub record NextOf (run : Progress) (line : List ℕ) (next : Progress) : Type 0 where
  pub number : next.number ≡ wrapped (run.number + 1)
  pub want : next.want ≡ (step_of run.want run.card line).want
  pub card : next.card ≡ (step_of run.want run.card line).card
  pub falls : 0 < rank run.want → rank next.want < rank run.want

-- what the line leaves, if the output went well
abbrev pub with_next : Result (Unit {0}) NotWritten → Progress → Result Progress NotWritten
with_next (Ok u) next = Ok next
with_next (Err e) next = Err e

-- its text was put after what is gathered, and that was flushed; `to` is the place after its text
pub record Turned (run : Progress) (before : Sink) (line : List ℕ) (t : Text) (r : Result Progress NotWritten) (after : Sink) (t' : Text)
    : Type 0 where
  pub to : ℕ
  pub put : Whole (step_of run.want run.card line).text t.buf.now t.at to t'.buf.now
  pub sink : after ≡ cond (nat_lt to gathered) before (counted_by r to before)
  pub well : to < gathered → IsOk r
  pub place : IfOk r (λ next. t'.at ≡ cond (nat_lt to gathered) to 0)
  pub next : IfOk r (λ next. NextOf run line next)

-- ---- the end

abbrev pub unwritten : RunError
unwritten = Unwritten

-- the output was written, and is what it is compared with
abbrev pub Written : Ending → Type 0
Written r = r ≢ Err Unwritten

-- the run ended so, and all that was gathered, n bytes, was handed over; unless it was not written
pub record Ends (end : Ending) (n : ℕ) (before : Sink) (r : Ending) (after : Sink) : Type 0 where
  pub ended : Written r → r ≡ end
  pub sink : Written r → after ≡ hand_over n before

-- the end's text was put after what is gathered, and handed over with it
pub record Finished (run : Progress) (before : Sink) (end : Ending) (t : Text) (r : Ending) (after : Sink) (t' : Text) : Type 0 where
  pub to : ℕ
  pub put : Whole (end_text end run.card) t.buf.now t.at to t'.buf.now
  pub is : Ends end to before r after

-- and the target: the first n bytes went there
abbrev pub Gone : {W R : Type 0} → (W → Option (List ℕ)) → Target W R → ℕ → List ℕ → Ending → Target W R → Type 0
Gone holds before n out r after = Written r → Wrote holds before after (take n out)

-- the place after a line's text, and after the end's
abbrev pub turned_at : Progress → Text → List ℕ → ℕ
turned_at run t line = t.at + length (step_of run.want run.card line).text

abbrev pub ended_at : Progress → Text → Ending → ℕ
ended_at run t end = t.at + length (end_text end run.card)

-- ---- the run

abbrev pub bytes : List ℕ → ℕ → ℕ → List ℕ
bytes buf from to = take (to - from) (drop from buf)

-- the lines that came, one after the other, and what is left after the last
pub data Came (buf : List ℕ) : List (List ℕ) → List ℕ → Reader → Type 0 where
  none : Came buf [] buf (reader 0 0)
  another : {lines : List (List ℕ)} {buf' : List ℕ} {r : Reader} {from to : ℕ} {left : Reader} {buf'' : List ℕ}
      → Came buf lines buf' r → Next buf' r (Ok (At from to left)) buf'' → Came buf (lines ++ (bytes buf'' from to ∷ [])) buf'' left

abbrev pub NoLine : Answer → Type 0
NoLine (Ok (At from to left)) = ⊥
NoLine (Ok End) = Unit {0}
NoLine (Ok (Long left)) = Unit {0}
NoLine (Err e) = Unit {0}

-- and the reader's last answer: it has no line, or no more is read after one, which is then bad (`end_of`)
pub data Over (buf : List ℕ) : List (List ℕ) → Answer → List ℕ → Type 0 where
  stops : {lines : List (List ℕ)} {buf' : List ℕ} {r : Reader} {l : Answer} {buf'' : List ℕ} → Came buf lines buf' r → Next buf' r l buf'' → NoLine l
      → Over buf lines l buf''
  enough : {lines : List (List ℕ)} {from to : ℕ} {left : Reader} {buf' : List ℕ} → Came buf lines buf' left → Over buf lines (Ok (At from to left)) buf'

-- What was handed over is the output of the lines that came, unless a part of it was not written: as many bytes as it has were counted, and a
-- writer that says what it holds has all of it after what it had. Each turn hands over, or gathers, the text of its line.
pub record RunTo {W R : Type 0} (holds : W → Option (List ℕ)) (target : Target W R) (buf : List ℕ) (sink : Sink) (r : Ending) (sink' : Sink)
    (buf' : List ℕ) (target' : Target W R) : Type 0 where
  pub lines : List (List ℕ)
  pub last : Answer
  pub over : Over buf lines last buf'
  pub same : length buf' ≡ length buf
  pub ended : Written r → r ≡ ending_after last lines
  pub handed : Written r → sink' ≡ hand_over (length (output_after last lines)) sink
  pub wrote : Written r → Wrote holds target target' (output_after last lines)

-- the same, with a buffer of its own
pub record RunOf {W R : Type 0} (holds : W → Option (List ℕ)) (target : Target W R) (sink : Sink) (r : Ending) (sink' : Sink) (target' : Target W R)
    : Type 0 where
  pub left : List ℕ
  pub is : RunTo holds target (replicate 69632 0) sink r sink' left target'
