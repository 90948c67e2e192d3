-- Lookup, get and remove in words. Assumes nothing.
use Prim.Native.Nat.{ℕ, zero, suc, ◌+◌, ◌-◌, ◌<◌}
use lib.ListN.{length, take, drop, set, get_or, get_or-append}
use lib.Seq.{take-length, get_or-set_same, get_or-set_other}
use mathlib.Core.Bool.{Bool, true, false, cond}
use mathlib.Core.List.{List, [], ◌∷◌}
use mathlib.Core.Path.{◌≡◌, refl, ap, sym, ◌∙◌}
use native.Mathlib.Omega.{arith}
use Rattle.std.specs.Prelude.{Ok, None}
use Rattle.neighbor.specs.CacheCalls.{blank, answer_in, shown}
use Rattle.neighbor.specs.NeighborRules.{Table, is_key, find, remove_key}
use Rattle.neighbor.specs.Scans.{FirstOfLaw, LookupLaw, GetLaw, RemoveLaw}
use Rattle.neighbor.specs.declared.Answer.TheVariants.{NotFound}
use Rattle.neighbor.specs.declared.Entry.{Entry}
use Rattle.table.proofs.Laws.{moved_in, moved_count}
use Rattle.table.specs.First.{FirstAt, NoneFrom}
use Rattle.table.specs.Table.{first_of, swap_remove, filled}

module _ {A B : Type 0} (d : A) (test : A → Bool) (f : A → B) (other : B) where
  of_first : (xs : List A) (j : ℕ) → j < length xs → test (get_or xs j d) ≡ true → ((i : ℕ) → i < j → test (get_or xs i d) ≡ false)
      → first_of test f other xs ≡ f (get_or xs j d)
  of_first [] j h p before = absurd (omega arith)
  of_first (x ∷ xs) zero h p before = ap (λ (b : Bool). cond b (f x) (first_of test f other xs)) p
  of_first (x ∷ xs) (suc j) h p before =
      ap (λ (b : Bool). cond b (f x) (first_of test f other xs)) (before 0 (omega arith))
      ∙ of_first xs j (omega arith) p (λ i l. before (suc i) (omega arith))

  of_none : (xs : List A) → ((i : ℕ) → i < length xs → test (get_or xs i d) ≡ false) → first_of test f other xs ≡ other
  of_none [] all = refl
  of_none (x ∷ xs) all =
      ap (λ (b : Bool). cond b (f x) (first_of test f other xs)) (all 0 (omega arith)) ∙ of_none xs (λ i l. all (suc i) (omega arith))

  pub first_of_lem : (xs : List A) (j : ℕ) → FirstAt d test 0 xs j → first_of test f other xs ≡ f (get_or xs j d)
  first_of_lem xs j at = of_first xs j at.inside at.passes (λ i l. at.first i (omega arith) l)

  pub none_of : (xs : List A) (j : ℕ) → NoneFrom d test 0 xs j → first_of test f other xs ≡ other
  none_of xs j at = of_none xs (λ i l. at.none i (omega arith) l)

pub first_of_law : FirstOfLaw
first_of_law =
    record { first = λ d test f other xs j at. first_of_lem d test f other xs j at; none = λ d test f other xs j at. none_of d test f other xs j at }

pub lookup_law : LookupLaw
lookup_law =
    record {
      has = λ k t j at. first_of_lem blank (is_key k) answer_in (Ok NotFound) t j at;
      has_not = λ k t j at. none_of blank (is_key k) answer_in (Ok NotFound) t j at;
    }

pub get_law : GetLaw
get_law =
    record {
      has = λ k t j at. first_of_lem blank (is_key k) shown (Ok None) t j at;
      has_not = λ k t j at. none_of blank (is_key k) shown (Ok None) t j at;
    }

-- the last entry is stored at i, and what is past the others is left
module _ (t : Table) (i : ℕ) (h : i < length t) where
  abbrev last_entry : Entry
  last_entry = get_or t (length t - 1) blank

  whole : length t ≡ length (take (length t) t)
  whole = ap length (sym (take-length t))

  stored : set t i last_entry ≡ filled t (swap_remove i t)
  stored =
      moved_in t (length t) (length t) whole blank i h ∙ ap (λ (l : Table). filled t (swap_remove i l)) (take-length t)

  pub swap_count : length (swap_remove i t) ≡ length t - 1
  swap_count = ap (λ (l : Table). length (swap_remove i l)) (sym (take-length t)) ∙ moved_count t (length t) (length t) whole blank i h

  reads : (j : ℕ) → j + 1 < length t → get_or (swap_remove i t) j blank ≡ get_or (set t i last_entry) j blank
  reads j l =
      sym (get_or-append (swap_remove i t) (drop (length (swap_remove i t)) t) blank j (omega (arith, swap_count)))
      ∙ ap (λ (l : Table). get_or l j blank) (sym stored)

  pub swap_moved : i + 1 < length t → get_or (swap_remove i t) i blank ≡ last_entry
  swap_moved l = reads i l ∙ get_or-set_same t i last_entry blank h

  pub swap_stay : (j : ℕ) → j + 1 < length t → (j ≡ i → ⊥) → get_or (swap_remove i t) j blank ≡ get_or t j blank
  swap_stay j l n = reads j l ∙ get_or-set_other t i j last_entry blank n

pub remove_law : RemoveLaw
unfolding remove_key
remove_law =
    record {
      fewer = λ k t h. swap_count t (find k t) h;
      moved = λ k t l. swap_moved t (find k t) (omega arith) l;
      stay = λ k t j h l n. swap_stay t (find k t) h j l n;
    }
