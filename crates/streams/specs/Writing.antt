-- Where output goes. No contract can say what the system's writers take: what is said here is how much was handed over and went well, and that a
-- writer that says what it holds has it. Assumes nothing.
use Rattle.std.specs.Prelude.{◌≡◌, ℕ, ◌+◌, ◌%◌, ◌^◌, Bool, true, false, List, Option, Result, Ok, Err}
use Rattle.std.specs.Io.KnownBytes.{Appends}
use Rattle.streams.specs.declared.sink.NotWritten.{NotWritten}
use Rattle.streams.specs.declared.sink.Sink.{Sink}
use Rattle.streams.specs.declared.sink.Target.{Target}
use Rattle.streams.specs.declared.sink.Target.TheVariants.{Write, Compare}

-- what a u64 that wraps holds
abbrev pub wrapped : ℕ → ℕ
wrapped n = n % 2 ^ 64

abbrev pub sink_of : ℕ → Sink
sink_of handed = record { handed = handed }

abbrev pub fresh : Sink
fresh = sink_of 0

-- n bytes more were handed over
abbrev pub hand_over : ℕ → Sink → Sink
hand_over n s = sink_of (wrapped (s.handed + n))

-- what went well is counted, and nothing else
abbrev pub counted_by : {A : Type 0} → Result A NotWritten → ℕ → Sink → Sink
counted_by (Ok x) n s = hand_over n s
counted_by (Err e) n s = s

-- what is written is held to nothing
abbrev pub Done : {W R : Type 0} → Target W R → Bool → Type 0
Done (Write w) b = b ≡ true
Done (Compare r) b = Unit {0}

-- whether output is written, and not compared
abbrev pub is_written : {W R : Type 0} → Target W R → Bool
is_written (Write w) = true
is_written (Compare r) = false

-- what a writer holds, where that is known, grew by these bytes; what is compared is written to nowhere
abbrev pub Wrote : {W R : Type 0} → (W → Option (List ℕ)) → Target W R → Target W R → List ℕ → Type 0
Wrote holds (Write w) (Write w') bytes = Appends (holds w) (holds w') bytes
Wrote holds (Write w) (Compare r) bytes = ⊥
Wrote holds (Compare r) t bytes = Unit {0}
