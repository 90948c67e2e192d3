-- Laws of messages in hexadecimal. Assumes nothing.
use Prim.Native.Nat.{ℕ, ◌*◌, ◌/◌}
use borrow.Author.Tests.{eq-eqb, ne_eqb}
use lib.Dec.{eqb, ltb}
use lib.ListN.{length}
use mathlib.Core.Bool.{Bool, true, false, cond}
use mathlib.Core.List.{List, [], ◌∷◌}
use mathlib.Core.Path.{◌≡◌, refl, sym, ◌∙◌}
use native.Mathlib.Omega.{arith}
use Rattle.std.proofs.lemmas.Option.{none-some, same_Some}
use Rattle.std.specs.Prelude.{Option, Some, None}
use Rattle.table.specs.Table.{filled}
use Rattle.text.proofs.HexLaws.{none_of}
use Rattle.text.specs.Addresses.{message_of, MessageRead}
use Rattle.text.specs.Hex.{unhexed, Unhexed}

none_by : (t z v : Bool) (n : ℕ) → cond t None (cond v (Some n) None) ≡ None → None ≡ cond t None (cond z None (cond v (Some n) None))
none_by true z v n e = refl
none_by false true v n e = refl
none_by false false v n e = sym e

some_by : (t v : Bool) (n k : ℕ) → cond t None (cond v (Some n) None) ≡ Some k → (k ≡ n) × (Some k ≡ cond t None (cond false None (cond v (Some n) None)))
some_by true v n k e = absurd (none-some k e)
some_by false true n k e = (sym (same_Some n k e), sym e)
some_by false false n k e = absurd (none-some k e)

empty : (l : List ℕ) → length l ≡ 0 → l ≡ []
empty [] e = refl
empty (x ∷ l) e = absurd (omega arith)

module _ (s out out' : List ℕ) (r : Option ℕ) (w : Unhexed s out r out') where
  pub message_none : r ≡ None → MessageRead s out None out'
  unfolding message_of
  message_none e =
      record {
        is = none_by (ltb (length out) (length s / 2)) (eqb (length (unhexed s)) 0) (eqb (2 * length (unhexed s)) (length s)) (length (unhexed s)) (sym w.is ∙ e);
        bytes = rw e at w.bytes;
      }

  module _ (k : ℕ) (e : r ≡ Some k) where
    count : (k ≡ length (unhexed s))
        × (Some k ≡ cond (ltb (length out) (length s / 2)) None (cond false None (cond (eqb (2 * length (unhexed s)) (length s)) (Some (length (unhexed s))) None)))
    count = some_by (ltb (length out) (length s / 2)) (eqb (2 * length (unhexed s)) (length s)) (length (unhexed s)) k (sym w.is ∙ e)

    pub message_zero : k ≡ 0 → MessageRead s out None out'
    unfolding message_of
    message_zero z =
        let n : length (unhexed s) ≡ 0 = sym count.0 ∙ z in
        let b : out' ≡ filled out (unhexed s) = rw e at w.bytes in
        record {
          is = rw (eq-eqb (length (unhexed s)) 0 n) (sym (none_of (ltb (length out) (length s / 2))));
          bytes = rw (empty (unhexed s) n) at b;
        }

    pub message_some : (k ≡ 0 → ⊥) → MessageRead s out (Some k) out'
    unfolding message_of
    message_some z =
        record { is = rw (ne_eqb (length (unhexed s)) 0 (λ q. z (count.0 ∙ q))) count.1; bytes = rw e at w.bytes }
