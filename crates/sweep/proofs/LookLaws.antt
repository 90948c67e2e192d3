-- What the calls for events look at, step by step. Assumes nothing.
use Prim.Native.Nat.{ℕ, zero, suc, ◌+◌, ◌<◌, ◌≤◌}
use lib.ListN.{length, get_or, drop_of_length-le}
use lib.Seq.{drop-cons}
use mathlib.Core.Bool.{true, false}
use mathlib.Core.List.{[], ◌∷◌, ◌++◌}
use mathlib.Core.Path.{◌≡◌, refl, ap, sym, ◌∙◌}
use native.Mathlib.Numerals.{add-one}
use Rattle.neighbor.specs.CacheCalls.{blank}
use Rattle.neighbor.specs.NeighborRules.{Table}
use Rattle.sweep.specs.SweepRules.{due, Probe, nothing, happens, probe, up_to, looks_at, looks_from}
use Rattle.sweep.specs.declared.ProbeEvent.{ProbeEvent}
use Rattle.time.specs.declared.Instant.{Instant}

module _ (i : ℕ) (now : Instant) (t : Table) (p : ℕ) where
  abbrev then : ℕ → Probe → Table
  then f x =
      elim x [
        | nothing ↦ looks_at i now t p
        | happens v t' p' ↦ looks_at i now t p ++ looks_from f i now t' p'
      ]

  unfolds : (f : ℕ) → looks_from (suc f) i now t p ≡ then f (probe i now t p)
  unfolding looks_from
  unfolds f = refl

  module _ (h : p < length t) where
    -- the entry at the place is due: the call looks at it and at no other
    found : due i now (get_or t p blank) ≡ true → looks_at i now t p ≡ get_or t p blank ∷ []
    unfolding looks_at
    found g = ap (up_to (due i now)) (drop-cons t p blank h) ∙ rw g

    pub looked_at_lem : due i now (get_or t p blank) ≡ true → (f : ℕ) (v : ProbeEvent) (t' : Table) (p' : ℕ) → probe i now t p ≡ happens v t' p'
        → length (looks_from (suc f) i now t p) ≡ suc (length (looks_from f i now t' p'))
    looked_at_lem g f v t' p' e = ap length (unfolds f ∙ (ap (then f) e ∙ ap (λ (l : Table). l ++ looks_from f i now t' p') (found g)))

    -- it is not: the call goes on
    passed : due i now (get_or t p blank) ≡ false → looks_at i now t p ≡ get_or t p blank ∷ looks_at i now t (suc p)
    unfolding looks_at
    passed g = ap (up_to (due i now)) (drop-cons t p blank h) ∙ rw g

  -- no entry is left
  none : length t ≤ p → looks_at i now t p ≡ []
  unfolding looks_at
  none h = ap (up_to (due i now)) (drop_of_length-le t h)

  pub looked_at_none : length t ≤ p → probe i now t p ≡ nothing → (f : ℕ) → looks_from f i now t p ≡ []
  unfolding looks_from
  looked_at_none h e zero = none h
  looked_at_none h e (suc f) = unfolds f ∙ (ap (then f) e ∙ none h)

-- an entry that is not due is looked at, and the rest from the next place on
module _ (i : ℕ) (now : Instant) (t : Table) (p : ℕ) (h : p < length t) (g : due i now (get_or t p blank) ≡ false) (f : ℕ) where
  longer : (x : Probe) → length (then i now t p f x) ≡ suc (length (then i now t (suc p) f x))
  longer nothing = ap length (passed i now t p h g)
  longer (happens v t' p') = ap (λ (l : Table). length (l ++ looks_from f i now t' p')) (passed i now t p h g)

  onward : probe i now t p ≡ probe i now t (suc p) → length (looks_from (suc f) i now t p) ≡ suc (length (looks_from (suc f) i now t (suc p)))
  onward e =
      ap length (unfolds i now t p f) ∙ (longer (probe i now t p)
      ∙ ap suc (ap length (ap (then i now t (suc p) f) e ∙ sym (unfolds i now t (suc p) f))))

  pub looked_past : probe i now t p ≡ probe i now t (p + 1) → length (looks_from (suc f) i now t p) ≡ suc (length (looks_from (suc f) i now t (p + 1)))
  looked_past = rw (add-one p) onward
