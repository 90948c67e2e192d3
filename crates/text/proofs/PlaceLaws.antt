-- Laws of putting text at a place. Assumes nothing.
use Prim.Native.Nat.{ℕ, suc, ◌+◌, ◌-◌, ◌≤◌, ◌<◌, min}
use borrow.Author.Tests.{leb-true, leb-false}
use lib.Dec.{leb}
use lib.ListN.{length, take, set, get_or, length-set, length-append}
use lib.Seq.{sets, length-sets, set_out, take-suc}
use mathlib.Core.Bool.{Bool, true, false}
use mathlib.Core.List.{List, [], ◌∷◌, ◌++◌}
use mathlib.Core.Path.{◌≡◌, refl, sym, ap₂, ◌∙◌}
use native.Mathlib.Numerals.{add-one}
use native.Mathlib.Omega.{arith}
use Rattle.text.specs.Place.{put, Put}

-- past the end nothing is put
past : (l : List ℕ) (i : ℕ) (vs : List ℕ) → length l ≤ i → sets l i vs ≡ l
past l i [] h = refl
past l i (a ∷ vs) h = rw (set_out l i a h) (past l (suc i) vs (omega arith))

sets_append : (l : List ℕ) (i : ℕ) (a b : List ℕ) → sets l i (a ++ b) ≡ sets (sets l i a) (i + length a) b
sets_append l i [] b = let e : i + 0 ≡ i = omega arith in rw e refl
sets_append l i (x ∷ a) b =
    let e : i + suc (length a) ≡ suc i + length a = omega arith in
    rw e (sets_append (set l i x) (suc i) a b)

-- the place after what was put serves as well as the place after all of it
next_by : (l : List ℕ) (i : ℕ) (a b : List ℕ) (t : Bool) → leb (i + length a) (length l) ≡ t
    → sets (sets l i a) (i + length a) b ≡ sets (sets l i a) (i + min (length a) (length l - i)) b
next_by l i a b true e =
    let h = leb-true (i + length a) (length l) e in
    let m : i + min (length a) (length l - i) ≡ i + length a = omega arith in
    rw m refl
next_by l i a b false e =
    let h = leb-false (i + length a) (length l) e in
    let n : length (sets l i a) ≡ length l = length-sets l i a in
    past (sets l i a) (i + length a) b (omega arith) ∙ sym (past (sets l i a) (i + min (length a) (length l - i)) b (omega arith))

-- one text after another
pub chain : {out out₁ out₂ a b : List ℕ} {at r q : ℕ} → Put out at a r out₁ → Put out₁ r b q out₂ → Put out at (a ++ b) q out₂
unfolding put
chain {out} {out₁} {out₂} {a} {b} {at} {r} {q} p w =
    let n = length-append a b in
    let x = p.next in
    let y = w.next in
    let z = p.same in
    let u = w.same in
    record {
      is = w.is ∙ ap₂ (λ (l : List ℕ) (i : ℕ). sets l i b) p.is x ∙ sym (next_by out at a b (leb (at + length a) (length out)) refl)
          ∙ sym (sets_append out at a b);
      next = omega arith;
      same = u ∙ z;
      low = omega (arith, p.low, w.low);
    }

pub put_none : (out : List ℕ) (at : ℕ) → Put out at [] at out
unfolding put
put_none out at = record { is = refl; next = omega arith; same = refl; low = omega arith }

pub put_byte : (out : List ℕ) (at b : ℕ) → at < length out → Put out at (b ∷ []) (at + 1) (set out at b)
unfolding put
put_byte out at b h = record { is = refl; next = omega arith; same = length-set out at b; low = omega arith }

pub put_past : (out : List ℕ) (at b : ℕ) → length out ≤ at → Put out at (b ∷ []) at out
unfolding put
put_past out at b h = record { is = sym (past out at (b ∷ []) h); next = omega arith; same = refl; low = omega arith }

-- a text known by another name
pub put_as : {out bs cs out' : List ℕ} {at r : ℕ} → bs ≡ cs → Put out at bs r out' → Put out at cs r out'
put_as {out} {bs} {cs} {out'} {at} {r} e p = rw e at p

-- one byte more of bs
pub one_more : {out out₁ out₂ : List ℕ} {at r q : ℕ} (bs : List ℕ) (i : ℕ) → i < length bs → Put out at (take i bs) r out₁ → Put out₁ r (get_or bs i 0 ∷ []) q out₂
    → Put out at (take (i + 1) bs) q out₂
one_more bs i h p w = put_as (sym (rw add-one (take-suc bs i 0 h))) (chain p w)
