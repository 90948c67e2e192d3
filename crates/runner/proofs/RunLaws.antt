-- Laws of a run: nothing that is printed is cut, and all of it is handed over once. Assumes nothing.
use Rattle.std.proofs.Common.{◌≡◌, ℕ, ◌+◌, ◌^◌, ◌<◌, ◌≤◌, Bool, true, false, cond, ltb, List, [], ◌∷◌, ◌++◌, length, take, drop, sym, refl, ap, ◌∙◌, subst, append_assoc, append-nil, arith, length-append, length-take-le, take_at, ltb-true, ltb-false, lt-ltb}
use lib.Seq.{sets-eq}
use native.Mathlib.Nat.{mod-add-mod}
use Rattle.std.specs.Prelude.{Option, Some, None, Ok, Err}
use Rattle.std.specs.Io.KnownBytes.{Appends}
use Rattle.report.proofs.Lengths.{bad_short}
use Rattle.report.specs.AnswerLines.{bad_line}
use Rattle.runner.specs.OutputRules.{failed, Ending, end_of, end_text, output_from, ending_from, output_after, ending_after}
use Rattle.runner.specs.RunRules.{gathered, Room, Whole, Handed, begun_run, Turned, turned_at, Written, Finished, Gone, ended_at, bytes, Came, none, another, NoLine, stops, enough, RunTo}
use Rattle.runner.specs.declared.RunError.TheVariants.{BadLine, NotWritten as Unwritten}
use Rattle.runner.specs.declared.Progress.{Progress}
use Rattle.script.specs.ReadingRules.{said_in, rank}
use Rattle.script.specs.StepRules.{step_of}
use Rattle.script.specs.declared.card.Card.{Card}
use Rattle.script.specs.declared.reading.Want.TheVariants.{Mac, Addresses, Address, Events, Event, Nothing, Failed}
use Rattle.script.specs.declared.reading.Want.{Want}
use Rattle.streams.proofs.ReadingLaws.{Held, held}
use Rattle.streams.specs.Reading.{reader, Fits, Answer, Next}
use Rattle.streams.specs.Writing.{wrapped, sink_of, hand_over, Wrote}
use Rattle.streams.specs.declared.reader.Line.TheVariants.{At, End, Long}
use Rattle.streams.specs.declared.reader.Line.{Line}
use Rattle.streams.specs.declared.reader.Reader.{Reader}
use Rattle.streams.specs.declared.sink.Sink.{Sink}
use Rattle.streams.specs.declared.sink.Target.{Target}
use Rattle.streams.specs.declared.sink.Target.TheVariants.{Write, Compare}
use Rattle.text.proofs.PlaceLaws.{put_none}
use Rattle.text.specs.Place.{put, Put}
use Rattle.text.specs.declared.print.Text.{Text}

-- ---- room

all_put : {text out out' : List ℕ} {at r : ℕ} → Put out at text r out' → length text ≤ 4096 → (at ≤ gathered) × (65536 ≤ length out) → Whole text out at r out'
all_put p t h =
    let n = p.next in
    record { is = p.is; place = omega (arith, h.0, h.1); same = p.same; within = omega (arith, h.0, h.1) }

-- for all of the end
pub ends_bad : (end : Ending) (x : Card) (n : ℕ) {out out' : List ℕ} {at r : ℕ} → end ≡ Err (BadLine n) → Put out at (bad_line n) r out' → (at ≤ gathered) × (65536 ≤ length out)
    → Whole (end_text end x) out at r out'
ends_bad end x n e p h = let s = (bad_short n).is in rw e (all_put p (omega arith) h)

pub ends_quiet : (end : Ending) (x : Card) (out : List ℕ) (at : ℕ) → end_text end x ≡ [] → (at ≤ gathered) × (65536 ≤ length out) → Whole (end_text end x) out at at out
ends_quiet end x out at e h = rw e (all_put (put_none out at) (omega arith) h)

-- ---- the end

-- what is no line by the match
pub no_line : (l : Line) → ((from to : ℕ) (left : Reader) → l ≡ At from to left → ⊥) → NoLine (Ok l)
no_line End h = tt
no_line (Long left) h = tt
no_line (At from to left) h = h from to left refl

-- ---- what is gathered and what was handed over

twice : (a n : ℕ) (s : Sink) → hand_over n (hand_over a s) ≡ hand_over (a + n) s
twice a n s =
    let e : s.handed + a + n ≡ s.handed + (a + n) = omega arith in
    ap sink_of (mod-add-mod (s.handed + a) (2 ^ 64) n ∙ ap wrapped e)

take_put : (text out : List ℕ) (at : ℕ) → at + length text ≤ length out → take (at + length text) (put out at text) ≡ take at out ++ text
unfolding put
take_put text out at h =
    let l : length (take at out ++ text) ≡ at + length text =
    length-append (take at out) text ∙ ap (λ (n : ℕ). n + length text) (length-take-le at out (omega arith)) in
    ap (take (at + length text)) (sets-eq text out at h)
    ∙ take_at (take at out ++ text) (drop (at + length text) out) (at + length text) l

-- ---- and what was written

appends_none : (o : Option (List ℕ)) → Appends o o []
appends_none None = tt
appends_none (Some xs) = sym (append-nil xs)

appends_on : (o p q : Option (List ℕ)) (a b : List ℕ) → Appends o p a → Appends p q b → Appends o q (a ++ b)
appends_on None p q a b g h = tt
appends_on (Some xs) None q a b g h = absurd g
appends_on (Some xs) (Some ys) None a b g h = absurd h
appends_on (Some xs) (Some ys) (Some zs) a b g h = h ∙ ap (λ (l : List ℕ). l ++ b) g ∙ append_assoc xs a b

module _ {W R : Type 0} (holds : W → Option (List ℕ)) where
  wrote_none : (t : Target W R) → Wrote holds t t []
  wrote_none (Write w) = appends_none (holds w)
  wrote_none (Compare r) = tt

  wrote_on : (t u v : Target W R) (a b : List ℕ) → Wrote holds t u a → Wrote holds u v b → Wrote holds t v (a ++ b)
  wrote_on (Compare r) u v a b g h = tt
  wrote_on (Write x) (Compare r) v a b g h = absurd g
  wrote_on (Write x) (Write y) (Compare r) a b g h = absurd h
  wrote_on (Write x) (Write y) (Write z) a b g h = appends_on (holds x) (holds y) (holds z) a b g h

-- what a line prints
abbrev pub said : Progress → List ℕ → List ℕ
said run line = (step_of run.want run.card line).text

-- the text so far: a part was handed over, and the rest is gathered
pub record Kept {W R : Type 0} (holds : W → Option (List ℕ)) (target₀ : Target W R) (sink₀ : Sink) (text : List ℕ) (sink : Sink) (out : Text)
    (target : Target W R) : Type 0 where
  pub over : List ℕ
  pub wrote : Wrote holds target₀ target over
  pub split : text ≡ over ++ take out.at out.buf.now
  pub counts : (n : ℕ) → hand_over n sink ≡ hand_over (length over + n) sink₀
  pub room : Room out

module _ {W R : Type 0} {holds : W → Option (List ℕ)} {target₀ target target' : Target W R} {sink₀ : Sink} {text : List ℕ} {run : Progress}
    {sink : Sink} {line : List ℕ} {out : Text} {r : Progress} {done : Unit {0}} {sink' : Sink} {out' : Text} (k : Kept holds target₀ sink₀ text sink out target)
    (t : Turned run sink line out (Ok r) sink' out') (q : Handed holds target (turned_at run out line) out'.buf.now (Ok done) target') where
  gathers : take t.to out'.buf.now ≡ take out.at out.buf.now ++ said run line
  gathers =
      let p = t.put in
      let w : out.at + length (said run line) ≤ length out.buf.now = let a = p.within in let b = p.place in omega arith in
      ap (λ (l : List ℕ). take t.to l) p.is ∙ ap (λ (n : ℕ). take n (put out.buf.now out.at (said run line))) p.place
      ∙ take_put (said run line) out.buf.now out.at w

  so_far : text ++ said run line ≡ k.over ++ take t.to out'.buf.now
  so_far =
      ap (λ (l : List ℕ). l ++ said run line) k.split ∙ append_assoc k.over (take out.at out.buf.now) (said run line) ∙ ap (λ (l : List ℕ). k.over ++ l) (sym gathers)

  kept_by : (b : Bool) → ltb t.to gathered ≡ b → out'.at ≡ cond b t.to 0 → sink' ≡ cond b sink (hand_over t.to sink)
      → Kept holds target₀ sink₀ (text ++ said run line) sink' out' target'
  kept_by true e a s =
      let h = ltb-true t.to gathered e in
      let m = t.put.same in
      let room = k.room.1 in
      let place = t.put.place in
      record {
        over = k.over;
        wrote = rw (q.kept (omega arith)) k.wrote;
        split = so_far ∙ ap (λ (n : ℕ). k.over ++ take n out'.buf.now) (sym a);
        counts = λ n. ap (hand_over n) s ∙ k.counts n;
        room = (omega arith, omega arith);
      }
  kept_by false e a s =
      let m = t.put.same in
      let w = t.put.within in
      let room = k.room.1 in
      let l : length (k.over ++ take t.to out'.buf.now) ≡ length k.over + t.to =
      length-append k.over (take t.to out'.buf.now) ∙ ap (λ (n : ℕ). length k.over + n) (length-take-le t.to out'.buf.now (omega arith)) in
      let place = t.put.place in
      let h = ltb-false t.to gathered e in
      record {
        over = k.over ++ take t.to out'.buf.now;
        wrote = wrote_on holds target₀ target target' k.over (take t.to out'.buf.now) k.wrote (rw place (q.wrote (omega arith)));
        split = so_far ∙ sym (append-nil (k.over ++ take t.to out'.buf.now)) ∙ ap (λ (n : ℕ). (k.over ++ take t.to out'.buf.now) ++ take n out'.buf.now) (sym a);
        counts = λ n.
            let i : length k.over + (t.to + n) ≡ length (k.over ++ take t.to out'.buf.now) + n = omega arith in
            ap (hand_over n) s ∙ twice t.to n sink ∙ k.counts (t.to + n) ∙ ap (λ (j : ℕ). hand_over j sink₀) i;
        room = (omega arith, omega arith);
      }

  pub kept_on : Kept holds target₀ sink₀ (text ++ said run line) sink' out' target'
  kept_on = kept_by (ltb t.to gathered) refl t.place t.sink

-- at the end all of it was handed over
all_handed : {W R : Type 0} {holds : W → Option (List ℕ)} {target₀ target : Target W R} {sink₀ : Sink} {text : List ℕ} {run : Progress} {sink : Sink}
    {out : Text} {end r : Ending} {sink' : Sink} {out' : Text} → Kept holds target₀ sink₀ text sink out target
    → Finished run sink end out r sink' out' → Written r → sink' ≡ hand_over (length (text ++ end_text end run.card)) sink₀
all_handed {sink₀ = sink₀} {text = text} {run = run} {sink = sink} {out = out} {end = end} k f z =
    let e = end_text end run.card in
    let room = k.room in
    let a : length text ≡ length k.over + out.at =
    ap length k.split ∙ length-append k.over (take out.at out.buf.now)
    ∙ ap (λ (n : ℕ). length k.over + n) (length-take-le out.at out.buf.now (omega (arith, k.room.0, k.room.1))) in
    let b = length-append text e in
    let i : length k.over + (out.at + length e) ≡ length (text ++ e) = omega arith in
    f.is.sink z ∙ ap (λ (n : ℕ). hand_over n sink) f.put.place ∙ k.counts (out.at + length e) ∙ ap (λ (j : ℕ). hand_over j sink₀) i

-- and written
all_wrote : {W R : Type 0} {holds : W → Option (List ℕ)} {target₀ target : Target W R} {sink₀ : Sink} {text : List ℕ} {run : Progress} {sink : Sink}
    {out : Text} {end r : Ending} {sink' : Sink} {out' : Text} (target' : Target W R) → Kept holds target₀ sink₀ text sink out target
    → Finished run sink end out r sink' out' → Gone holds target (ended_at run out end) out'.buf.now r target' → Written r
    → Wrote holds target₀ target' (text ++ end_text end run.card)
all_wrote {holds = holds} {target₀ = target₀} {target = target} {text = text} {run = run} {out = out} {end = end} {out' = out'} target' k f g z =
    let e = end_text end run.card in
    let p = f.put in
    let h : out.at + length e ≤ length out.buf.now = let a = p.within in let b = p.place in omega arith in
    let last : take (out.at + length e) out'.buf.now ≡ take out.at out.buf.now ++ e =
    ap (λ (l : List ℕ). take (out.at + length e) l) p.is ∙ take_put e out.buf.now out.at h in
    let all : text ++ e ≡ k.over ++ take (out.at + length e) out'.buf.now =
    ap (λ (l : List ℕ). l ++ e) k.split ∙ append_assoc k.over (take out.at out.buf.now) e ∙ ap (λ (l : List ℕ). k.over ++ l) (sym last) in
    rw all (wrote_on holds target₀ target target' k.over (take (out.at + length e) out'.buf.now) k.wrote (g z))

-- ---- the loop

no_false : true ≡ false → ⊥
no_false p = let z : ◌≡◌ {A = ℕ} 0 1 = cc in omega arith

-- while no bad line has come, another can
goes_on : (w : Want) → failed w ≡ false → 0 < rank w
goes_on Failed e = absurd (no_false e)
goes_on Mac e = omega arith
goes_on Addresses e = omega arith
goes_on (Address n) e = omega arith
goes_on Events e = omega arith
goes_on (Event n) e = omega arith
goes_on Nothing e = omega arith

-- the output of lines unfolds by one turn
module _ (l : Answer) (n : ℕ) (w : Want) (x : Card) (line : List ℕ) (more : List (List ℕ)) where
  pub one_more : failed (step_of w x line).want ≡ false
      → output_from l n w x (line ∷ more) ≡ (step_of w x line).text ++ output_from l (wrapped (n + 1)) (step_of w x line).want (step_of w x line).card more
  unfolding output_from
  one_more e = rw e refl

  pub one_bad : failed (step_of w x line).want ≡ true → output_from l n w x (line ∷ more) ≡ (step_of w x line).text ++ bad_line n
  unfolding output_from
  one_bad e = rw e refl

  pub ends_later : failed (step_of w x line).want ≡ false
      → ending_from l n w x (line ∷ more) ≡ ending_from l (wrapped (n + 1)) (step_of w x line).want (step_of w x line).card more
  unfolding ending_from
  ends_later e = rw e refl

  pub ends_here : failed (step_of w x line).want ≡ true → ending_from l n w x (line ∷ more) ≡ Err (BadLine n)
  unfolding ending_from
  ends_here e = rw e refl

pub no_more : (l : Answer) (n : ℕ) (w : Want) (x : Card) → output_from l n w x [] ≡ end_text (end_of l w n) x
unfolding output_from
no_more l n w x = refl

pub ends_so : (l : Answer) (n : ℕ) (w : Want) (x : Card) → ending_from l n w x [] ≡ end_of l w n
unfolding ending_from
ends_so l n w x = refl

-- a line above 4,096 bytes is bad wherever it comes, so that a reader that has no room for it need not hand it out
long_step : (w : Want) (x : Card) (line : List ℕ) → 4096 < length line → ((step_of w x line).want ≡ Failed) × ((step_of w x line).text ≡ [])
unfolding step_of said_in
long_step w x line h = rw (lt-ltb 4096 (length line) h) (refl, refl)

pub long_line : (left : Reader) (n : ℕ) (w : Want) (x : Card) (line : List ℕ) (lines : List (List ℕ)) → 4096 < length line
    → output_from (Ok (Long left)) n w x lines ≡ output_from (Ok End) n w x (lines ++ (line ∷ []))
unfolding output_from
long_line left n w x line [] h = let s = long_step w x line h in rw (s.0, s.1) refl
long_line left n w x line (first ∷ lines) h =
    ap (λ (rest : List ℕ). (step_of w x first).text ++ cond (failed (step_of w x first).want) (bad_line n) rest)
    (long_line left (wrapped (n + 1)) (step_of w x first).want (step_of w x first).card line lines h)

pub record Under {W R : Type 0} (holds : W → Option (List ℕ)) (target₀ : Target W R) (buf₀ : List ℕ) (sink₀ : Sink) (buf : List ℕ) (r : Reader)
    (run : Progress) (sink : Sink) (out : Text) (target : Target W R) : Type 0 where
  pub lines : List (List ℕ)
  pub text : List ℕ
  pub came : Came buf₀ lines buf r
  pub same : length buf ≡ length buf₀
  pub fits : Fits buf r
  pub kept : Kept holds target₀ sink₀ text sink out target
  pub alive : 0 < rank run.want
  pub output : (l : Answer) (more : List (List ℕ)) → output_after l (lines ++ more) ≡ text ++ output_from l run.number run.want run.card more
  pub ending : (l : Answer) (more : List (List ℕ)) → ending_after l (lines ++ more) ≡ ending_from l run.number run.want run.card more

starts : {W R : Type 0} (holds : W → Option (List ℕ)) (target : Target W R) (buf : List ℕ) (sink : Sink) (out : Text) → out.at ≡ 0 → 4096 < length buf
    → 65536 ≤ length out.buf.now → Under holds target buf sink buf (reader 0 0) begun_run sink out target
starts holds target buf sink out e h k = record {
  lines = [];
  text = [];
  came = none;
  same = refl;
  fits = (omega arith, omega arith, h);
  kept = record { over = []; wrote = wrote_none holds target; split = ap (λ (n : ℕ). take n out.buf.now) (sym e); counts = λ n. let i : n ≡ 0 + n = omega arith in ap (λ (j : ℕ). hand_over j sink) i; room = (omega (arith, e), k) };
  alive = omega arith;
  output = λ l more. refl;
  ending = λ l more. refl;
}

pub starts_at : {W R : Type 0} {holds : W → Option (List ℕ)} {target : Target W R} {buf : List ℕ} {sink : Sink} {run : Progress} {out : Text}
    → run ≡ begun_run → out.at ≡ 0 → 4096 < length buf → 65536 ≤ length out.buf.now → Under holds target buf sink buf (reader 0 0) run sink out target
starts_at {holds = holds} {target = target} {buf = buf} {sink = sink} {out = out} e a h k =
    subst (λ (p : Progress). Under holds target buf sink buf (reader 0 0) p sink out target) (sym e) (starts holds target buf sink out a h k)

module _ {W R : Type 0} {holds : W → Option (List ℕ)} {target₀ target : Target W R} {buf₀ : List ℕ} {sink₀ : Sink} {buf : List ℕ} {r : Reader}
    {run : Progress} {sink : Sink} {out : Text} (u : Under holds target₀ buf₀ sink₀ buf r run sink out target) where
  -- no line is left, or it is too long or was not read
  pub over_by : {l : Answer} {buf' : List ℕ} {end : Ending} {out' : Text} {ran : Ending} {sink' : Sink} (target' : Target W R) → Next buf r l buf'
      → NoLine l → end ≡ end_of l run.want run.number → Finished run sink end out ran sink' out' → Gone holds target (ended_at run out end) out'.buf.now ran target'
      → RunTo holds target₀ buf₀ sink₀ ran sink' buf' target'
  over_by {l = l} {end = end} target' n y e f g =
      let q = append-nil u.lines in
      let o = u.output l [] ∙ ap (λ (s : List ℕ). u.text ++ s) (no_more l run.number run.want run.card) in
      let all = ap (λ (d : Ending). u.text ++ end_text d run.card) e ∙ sym o ∙ ap (output_after l) q in
      record {
        lines = u.lines;
        last = l;
        over = stops u.came n y;
        same = n.same ∙ u.same;
        ended = λ z. f.is.ended z ∙ e ∙ sym (ends_so l run.number run.want run.card) ∙ sym (u.ending l []) ∙ ap (ending_after l) q;
        handed = λ z. all_handed u.kept f z ∙ ap (λ (s : List ℕ). hand_over (length s) sink₀) all;
        wrote = λ z. rw (← all) (all_wrote target' u.kept f g z);
      }

  module _ (from to : ℕ) (left : Reader) {l : Answer} {buf' : List ℕ} (n : Next buf r l buf') (e : l ≡ Ok (At from to left)) where
    it : Next buf r (Ok (At from to left)) buf'
    it = rw e at n

    -- the line lies in the buffer
    pub line_held : Held buf' from to left
    line_held = held from to left (n.line u.fits) u.fits e

    abbrev line : List ℕ
    line = bytes buf' from to

    abbrev lines' : List (List ℕ)
    lines' = u.lines ++ (line ∷ [])

    came' : Came buf₀ lines' buf' left
    came' = another u.came it

    pub not_written : {ran : Ending} {sink' : Sink} {target' : Target W R} → ran ≡ Err Unwritten → RunTo holds target₀ buf₀ sink₀ ran sink' buf' target'
    not_written y = record {
      lines = lines';
      last = Ok (At from to left);
      over = enough came';
      same = n.same ∙ u.same;
      ended = λ z. absurd (z y);
      handed = λ z. absurd (z y);
      wrote = λ z. absurd (z y);
    }

    module _ {next : Progress} {done : Unit {0}} {sink' : Sink} {out' : Text} {target' : Target W R} (t : Turned run sink (bytes buf' from to) out (Ok next) sink' out')
        (w : Handed holds target (turned_at run out (bytes buf' from to)) out'.buf.now (Ok done) target') where
      pub bad_line_lem : {out'' : Text} {ran : Ending} {sink'' : Sink} (target'' : Target W R) → failed next.want ≡ true
          → Finished next sink' (Err (BadLine run.number)) out' ran sink'' out''
          → Gone holds target' (ended_at next out' (Err (BadLine run.number))) out''.buf.now ran target'' → RunTo holds target₀ buf₀ sink₀ ran sink'' buf' target''
      bad_line_lem target'' b f g =
          let l : Answer = Ok (At from to left) in
          let y : failed (step_of run.want run.card line).want ≡ true = ap failed (sym t.next.want) ∙ b in
          let prints = u.output l (line ∷ []) ∙ ap (λ (s : List ℕ). u.text ++ s) (one_bad l run.number run.want run.card line [] y)
          ∙ sym (append_assoc u.text (said run line) (bad_line run.number)) in
          record {
            lines = lines';
            last = l;
            over = enough came';
            same = n.same ∙ u.same;
            ended = λ z. f.is.ended z ∙ sym (ends_here l run.number run.want run.card line [] y) ∙ sym (u.ending l (line ∷ []));
            handed = λ z. all_handed (kept_on u.kept t w) f z ∙ ap (λ (s : List ℕ). hand_over (length s) sink₀) (sym prints);
            wrote = λ z. rw prints (all_wrote target'' (kept_on u.kept t w) f g z);
          }

      abbrev later : Answer → List (List ℕ) → List ℕ
      later l more = output_from l (wrapped (run.number + 1)) (step_of run.want run.card line).want (step_of run.want run.card line).card more

      goes : (l : Answer) (more : List (List ℕ)) → later l more ≡ output_from l next.number next.want next.card more
      goes l more = rw (t.next.number, t.next.want, t.next.card) refl

      ends_on : (l : Answer) (more : List (List ℕ))
          → ending_from l (wrapped (run.number + 1)) (step_of run.want run.card line).want (step_of run.want run.card line).card more
          ≡ ending_from l next.number next.want next.card more
      ends_on l more = rw (t.next.number, t.next.want, t.next.card) refl

      pub turned_on : failed next.want ≡ false → Under holds target₀ buf₀ sink₀ buf' left next sink' out' target'
      turned_on b =
          let y : failed (step_of run.want run.card line).want ≡ false = ap failed (sym t.next.want) ∙ b in
          record {
            lines = lines';
            text = u.text ++ said run line;
            came = came';
            same = n.same ∙ u.same;
            fits = line_held.fits;
            kept = kept_on u.kept t w;
            alive = goes_on next.want b;
            output = λ l more.
                ap (output_after l) (append_assoc u.lines (line ∷ []) more) ∙ u.output l (line ∷ more)
                ∙ ap (λ (s : List ℕ). u.text ++ s) (one_more l run.number run.want run.card line more y)
                ∙ sym (append_assoc u.text (said run line) (later l more)) ∙ ap (λ (s : List ℕ). (u.text ++ said run line) ++ s) (goes l more);
            ending = λ l more.
                ap (ending_after l) (append_assoc u.lines (line ∷ []) more) ∙ u.ending l (line ∷ more)
                ∙ ends_later l run.number run.want run.card line more y ∙ ends_on l more;
          }
