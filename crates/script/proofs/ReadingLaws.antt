-- Laws of the course: what a line says, and that each leaves fewer that can still come. Assumes nothing.
use Prim.Native.Nat.{ℕ, ◌+◌, ◌-◌, ◌≤◌, ◌<◌}
use borrow.Author.Tests.{eqb-false, lt-ltb, le-ltb}
use lib.Dec.{eqb}
use lib.ListN.{length}
use mathlib.Core.Bool.{Bool, true, false, cond}
use mathlib.Core.List.{List}
use mathlib.Core.Path.{◌≡◌, refl, ap}
use native.Mathlib.Omega.{arith}
use Rattle.lines.specs.EventLines.{parsed_bytes}
use Rattle.lines.specs.declared.event.Event.{Event as AnEvent}
use Rattle.script.specs.ReadingRules.{address_want, event_want, said_of, said_in, bytes_of, bytes_in, next_of, rank, ReadySaid, SaidTo}
use Rattle.script.specs.declared.reading.Said.TheVariants.{Next, Static, Event as Happens}
use Rattle.script.specs.declared.reading.Said.{Said}
use Rattle.script.specs.declared.reading.Want.TheVariants.{Address, Events, Event, Nothing, Failed}
use Rattle.script.specs.declared.reading.Want.{Want}
use Rattle.std.specs.Prelude.{Option, Some, None}
use Rattle.table.specs.Table.{filled}
use Rattle.text.specs.Fields.{fields}
use Rattle.wire.specs.declared.ipv6.Ipv6Cidr.{Ipv6Cidr}

address_by : (n : ℕ) (b : Bool) → eqb n 0 ≡ b → rank (cond b Events (Address (n - 1))) < 18446744073709551619 + n
address_by n true e = omega arith
address_by n false e = let h = eqb-false n 0 e in omega arith

pub address_falls : (n : ℕ) → rank (address_want n) < 18446744073709551619 + n
address_falls n = address_by n (eqb n 0) refl

event_by : (n : ℕ) (b : Bool) → eqb n 0 ≡ b → rank (cond b Nothing (Event (n - 1))) < 2 + n
event_by n true e = omega arith
event_by n false e = let h = eqb-false n 0 e in omega arith

pub event_falls : (n : ℕ) → rank (event_want n) < 2 + n
event_falls n = event_by n (eqb n 0) refl

pub too_long : (message : List ℕ) (w : Want) (line : List ℕ) → 4096 < length line → SaidTo message w line None message
unfolding said_in bytes_in
too_long message w line h =
    let e = lt-ltb 4096 (length line) h in
    record { is = rw e refl; bytes = rw e refl; ready = tt; falls = λ k. k }

module _ (message : List ℕ) (w : Want) (line message' : List ℕ) (h : length line ≤ 4096) where
  -- a line where v is wanted
  pub says : (v : Want) (r : Option Said) → w ≡ v → r ≡ said_of (length message) v (fields line) → message' ≡ filled message (bytes_of (length message) v (fields line))
      → ReadySaid message' (parsed_bytes (length message) (fields line)) r → rank (next_of r) < rank v → SaidTo message w line r message'
  unfolding said_in bytes_in
  says v r p q b z f =
      let e = le-ltb 4096 (length line) h in
      record { is = rw (e, p) q; bytes = rw (e, p) b; ready = z; falls = λ k. rw p f }

  -- where a bad line has come
  pub over : w ≡ Failed → message' ≡ message → SaidTo message w line None message'
  unfolding said_in bytes_in
  over p b =
      let e = le-ltb 4096 (length line) h in
      record { is = rw (e, p) refl; bytes = rw (e, p) b; ready = tt; falls = λ k. absurd (let y = rw p at k in omega arith) }

-- what is wanted, known by another name
pub as_rank : {u v : Want} {m : ℕ} → u ≡ v → rank v < m → rank u < m
as_rank e h = rw e h

pub next_as : {u v : Want} → u ≡ v → Some (Next u) ≡ Some (Next v)
next_as e = ap (λ (w : Want). Some (Next w)) e

pub static_as : {c : Ipv6Cidr} {u v : Want} → u ≡ v → Some (Static c u) ≡ Some (Static c v)
static_as {c} e = ap (λ (w : Want). Some (Static c w)) e

pub happens_as : {t : ℕ} {e : AnEvent} {u v : Want} → u ≡ v → Some (Happens t e u) ≡ Some (Happens t e v)
happens_as {t} {e} p = ap (λ (w : Want). Some (Happens t e w)) p
