-- Release and orphans in words. Assumes nothing.
use Prim.Native.Nat.{ℕ, zero, suc, ◌<◌}
use lib.ListN.{length, take, drop, get_or}
use mathlib.Core.Bool.{Bool, true, false, cond, not}
use mathlib.Core.List.{[], ◌∷◌, ◌++◌}
use mathlib.Core.Path.{◌≡◌, refl, ap, ◌∙◌}
use native.Mathlib.Numerals.{add-one}
use native.Mathlib.Omega.{arith}
use Rattle.std.specs.Prelude.{None, Ok}
use Rattle.neighbor.proofs.Scans.{first_of_lem, none_of}
use Rattle.neighbor.specs.CacheCalls.{blank as blankEntry}
use Rattle.neighbor.specs.NeighborRules.{Key, is_key}
use Rattle.neighbor.specs.declared.State.TheVariants.{Started, Incomplete, Reachable, Stale}
use Rattle.neighbor.specs.declared.State.{State}
use Rattle.pending.specs.QueueCalls.{blank}
use Rattle.pending.specs.QueueRules.{Queue, key_of, has_key, gone, release_list, handed, release_answer, awaits, awaits_in, orphaned}
use Rattle.pending.specs.QueueScans.{ReleaseLaw, OrphanLaw}
use Rattle.table.specs.First.{FirstAt}
use Rattle.table.specs.Table.{at_first_is, without}
use Rattle.wire.specs.declared.ethernet.HardwareAddress.{HardwareAddress}

module _ (k : Key) where
  goes : (q : Queue) (j : ℕ) → j < length q → has_key k (get_or q j blank) ≡ true → ((i : ℕ) → i < j → has_key k (get_or q i blank) ≡ false)
      → at_first_is (has_key k) gone [] q ≡ take j q ++ drop (suc j) q
  goes [] j h p before = absurd (omega arith)
  goes (x ∷ q) zero h p before = ap (λ (b : Bool). cond b (gone x ++ q) (x ∷ at_first_is (has_key k) gone [] q)) p
  goes (x ∷ q) (suc j) h p before =
      ap (λ (b : Bool). cond b (gone x ++ q) (x ∷ at_first_is (has_key k) gone [] q)) (before 0 (omega arith))
      ∙ ap (λ (l : Queue). x ∷ l) (goes q j (omega arith) p (λ i l. before (suc i) (omega arith)))

  all_stay : (q : Queue) → ((i : ℕ) → i < length q → has_key k (get_or q i blank) ≡ false) → at_first_is (has_key k) gone [] q ≡ q
  all_stay [] all = refl
  all_stay (x ∷ q) all =
      ap (λ (b : Bool). cond b (gone x ++ q) (x ∷ at_first_is (has_key k) gone [] q)) (all 0 (omega arith))
      ∙ ap (λ (l : Queue). x ∷ l) (all_stay q (λ i l. all (suc i) (omega arith)))

  taken : (q : Queue) (j : ℕ) → FirstAt blank (has_key k) 0 q j → at_first_is (has_key k) gone [] q ≡ without q j
  taken q j at = rw (add-one j) (goes q j at.inside at.passes (λ i l. at.first i (omega arith) l))

pub release_law : ReleaseLaw
unfolding release_list release_answer
release_law =
    record {
      gives = λ k q j at. first_of_lem blank (has_key k) handed (Ok None) q j at;
      takes = λ k q j at. taken k q j at;
      gives_none = λ k q j at. none_of blank (has_key k) handed (Ok None) q j at;
      takes_none = λ k q j at. all_stay k q (λ i l. at.none i (omega arith) l);
    }

awaits_unless : (s : State) → ((h : HardwareAddress) → s ≡ Stale h → ⊥) → awaits s ≡ true
awaits_unless Started n = refl
awaits_unless (Incomplete p t) n = refl
awaits_unless (Reachable h t) n = refl
awaits_unless (Stale h) n = absurd (n h refl)

pub orphan_law : OrphanLaw
unfolding orphaned
orphan_law =
    record {
      absent = λ t p j at. ap not (none_of blankEntry (is_key (key_of p)) awaits_in false t j at);
      stale = λ t p j h at e. ap not (first_of_lem blankEntry (is_key (key_of p)) awaits_in false t j at ∙ ap awaits e);
      awaited = λ t p j at n. ap not (first_of_lem blankEntry (is_key (key_of p)) awaits_in false t j at ∙ awaits_unless _ n);
    }
