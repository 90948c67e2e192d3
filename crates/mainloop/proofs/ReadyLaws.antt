-- Laws of releasing the packets of a key one by one. Assumes nothing.
use Prim.Native.Nat.{ℕ, zero, suc, ◌+◌, ◌-◌, ◌<◌, ◌≤◌}
use lib.ListN.{length, set, length-take}
use mathlib.Core.Bool.{Bool, true, false, cond}
use mathlib.Core.List.{List, [], ◌∷◌}
use mathlib.Core.Path.{◌≡◌, refl, ap, ap₂, sym, ◌∙◌}
use native.Mathlib.Omega.{arith}
use Rattle.std.specs.Prelude.{Option, Some, None, Result, Ok, Err}
use Rattle.std.specs.Result.{result_unwrap_or}
use Rattle.wire.specs.declared.error.Refusal.{Refusal}
use Rattle.table.proofs.Laws.{Collecting, collect, collected}
use Rattle.table.specs.Table.{any_of, first_of}
use Rattle.wire.specs.declared.ipv6.Ipv6Addr.{Ipv6Addr}
use Rattle.neighbor.specs.CacheCalls.{key}
use Rattle.neighbor.specs.NeighborRules.{Key}
use Rattle.pending.proofs.Calls.{packets_of}
use Rattle.pending.specs.QueueCalls.{packets, with_packets, zeros, handle_alone, released_out, release_by, ReleasedTo}
use Rattle.pending.specs.QueueRules.{Queue, handle_of, has_key, handed, release_list, release_answer, dropped_handles}
use Rattle.pending.specs.declared.Handles.{Handles}
use Rattle.pending.specs.declared.PendingQueue.{PendingQueue}
use Rattle.pending.specs.declared.Released.{Released}
use Rattle.wire.specs.Refusals.{iface_check}
use Rattle.mainloop.specs.LoopRules.{release_of, releases, ready_of}
use Rattle.mainloop.specs.declared.Ready.{Ready}

-- a handle that an answer gives, where a refusal gives none
pub handle_given : (a : Result (Option ℕ) Refusal) (h : ℕ) → result_unwrap_or a None ≡ Some h → a ≡ Ok (Some h)
handle_given (Ok o) h e = ap Ok e
handle_given (Err why) h e = let z : ◌≡◌ {A = ℕ} 0 1 = cc in absurd (omega arith)

-- On the list

module _ (k : Key) where
  -- the handle that is given is the first of those that wait, and one packet fewer is left
  pub record OneGone (ps : Queue) (h : ℕ) : Type 0 where
    pub out : dropped_handles (has_key k) ps ≡ h ∷ dropped_handles (has_key k) (release_list k ps)
    pub fewer : suc (length (release_list k ps)) ≡ length ps

  pub one_gone : (ps : Queue) (h : ℕ) → release_answer k ps ≡ Ok (Some h) → OneGone ps h
  unfolding release_answer release_list dropped_handles
  one_gone [] h e = let z : ◌≡◌ {A = ℕ} 0 1 = cc in absurd (omega arith)
  one_gone (p ∷ ps) h e = go (has_key k p) refl (one_gone ps h) e
    where
      go : (x : Bool) → has_key k p ≡ x → (release_answer k ps ≡ Ok (Some h) → OneGone ps h)
          → cond x (handed p) (first_of (has_key k) handed (Ok None) ps) ≡ Ok (Some h) → OneGone (p ∷ ps) h
      go true f g w = let same : handle_of p ≡ h = cc in record { out = simp (f, same); fewer = simp f }
      go false f g w = record { out = simp f (g w).out; fewer = simp f (ap suc (g w).fewer) }

  -- where none is given none waits
  pub record NoneWaits (ps : Queue) : Type 0 where
    pub out : dropped_handles (has_key k) ps ≡ []
    pub any : any_of (has_key k) ps ≡ false

  pub none_waits_lem : (ps : Queue) → first_of (has_key k) handle_alone [] ps ≡ [] → NoneWaits ps
  unfolding dropped_handles
  none_waits_lem [] e = record { out = refl; any = refl }
  none_waits_lem (p ∷ ps) e = go (has_key k p) refl (none_waits_lem ps) e
    where
      go : (x : Bool) → has_key k p ≡ x → (first_of (has_key k) handle_alone [] ps ≡ [] → NoneWaits ps)
          → cond x (handle_alone p) (first_of (has_key k) handle_alone [] ps) ≡ [] → NoneWaits (p ∷ ps)
      go true f g w = let z : ◌≡◌ {A = ℕ} 1 0 = ap length w in absurd (omega arith)
      go false f g w = record { out = simp f (g w).out; any = simp f (g w).any }

  pub empty_waits : (ps : Queue) → length ps ≡ 0 → NoneWaits ps
  unfolding dropped_handles
  empty_waits [] e = record { out = refl; any = refl }
  empty_waits (p ∷ ps) e = absurd (omega arith)

  -- On the queue

  -- a release, by whether one waits
  abbrev pub released_if : Bool → PendingQueue → Released
  released_if any q =
      cond any (record { queue = with_packets q (release_list k (packets q)); answer = release_answer k (packets q) }) (record { queue = q; answer = Ok None })

  -- a release that gives a handle
  pub given : (q : PendingQueue) (h : ℕ) → (release_by (iface_check 0) q k).answer ≡ Ok (Some h)
      → (release_of k q ≡ with_packets q (release_list k (packets q))) × (release_answer k (packets q) ≡ Ok (Some h))
  given q h e = go (any_of (has_key k) (packets q)) refl e
    where
      go : (x : Bool) → any_of (has_key k) (packets q) ≡ x → (released_if x q).answer ≡ Ok (Some h)
          → (release_of k q ≡ with_packets q (release_list k (packets q))) × (release_answer k (packets q) ≡ Ok (Some h))
      go true f w = (ap (λ (x : Bool). (released_if x q).queue) f, w)
      go false f w = let z : ◌≡◌ {A = ℕ} 0 1 = cc in absurd (omega arith)

  pub none_left : (n : ℕ) (q : PendingQueue) → any_of (has_key k) (packets q) ≡ false → releases n k q ≡ q
  unfolding releases
  none_left zero q e = refl
  none_left (suc n) q e =
      let same : release_of k q ≡ q = ap (λ (x : Bool). (released_if x q).queue) e in
      ap (releases n k) same ∙ none_left n q e

  one_release : (n : ℕ) (q : PendingQueue) → releases (suc n) k q ≡ releases n k (release_of k q)
  unfolding releases
  one_release n q = refl

  -- The loop: `len` packets were released, `q` is left of `q₀`

  pub record Releasing (q₀ q : PendingQueue) (slots : List ℕ) (len : ℕ) : Type 0 where
    pub queue : releases (8 - len) k q ≡ releases 8 k q₀
    pub out : Collecting (dropped_handles (has_key k) (packets q₀)) zeros slots len (dropped_handles (has_key k) (packets q))
    pub few : len + length (packets q) ≤ 8

  pub releasing : (q : PendingQueue) → length q.slots ≡ 8 → Releasing q q zeros 0
  releasing q full =
      record {
        queue = refl;
        out = record { so_far = refl; rest = refl; long = refl };
        few = omega (arith, length-take q.len q.slots);
      }

  module _ {q₀ q : PendingQueue} {slots : List ℕ} {len : ℕ} (inv : Releasing q₀ q slots len) where
    -- where none waits the loop is at its end
    ends : {n : ℕ} → n ≡ len → NoneWaits (packets q) → len ≤ 8 → ◌≡◌ {A = Ready} (record { queue = q; handles = record { slots = slots; len = n } }) (ready_of k q₀)
    unfolding ready_of
    ends e w h =
        let o = collected _ _ _ _ _ inv.out w.out h in
        ap₂ (λ (x : PendingQueue) (y : Handles). record { queue = x; handles = y })
        (sym (none_left (8 - len) q w.any) ∙ inv.queue) (ap₂ (λ (x : List ℕ) (y : ℕ). record { slots = x; len = y }) o.0 (e ∙ o.1))

    pub ends_full : {n : ℕ} → n ≡ len → 8 ≤ len → len ≤ 8 → ◌≡◌ {A = Ready} (record { queue = q; handles = record { slots = slots; len = n } }) (ready_of k q₀)
    ends_full e h l = ends e (empty_waits (packets q) (omega (arith, inv.few))) l

module _ (addr : Ipv6Addr) {q₀ q : PendingQueue} {slots : List ℕ} {len : ℕ} (inv : Releasing (key 0 addr) q₀ q slots len) (r : Released)
    (w : ReleasedTo q 0 addr r) where
  pub goes_on : (h : ℕ) → r.answer ≡ Ok (Some h) → len < 8 → Releasing (key 0 addr) q₀ r.queue (set slots len h) (len + 1)
  goes_on h e l =
      let k : Key = key 0 addr in
      let g = given k q h (ap (λ (x : Released). x.answer) (sym w.is) ∙ e) in
      let o = one_gone k (packets q) h g.1 in
      let same : r.queue ≡ release_of k q = ap (λ (x : Released). x.queue) w.is in
      let left : packets r.queue ≡ release_list k (packets q) = ap packets (same ∙ g.0) ∙ packets_of q (release_list k (packets q)) in
      let n : 8 - len ≡ suc (8 - (len + 1)) = omega arith in
      record {
        queue =
            ap (releases (8 - (len + 1)) k) same
            ∙ (sym (one_release k (8 - (len + 1)) q) ∙ (ap (λ (m : ℕ). releases m k q) (sym n) ∙ inv.queue));
        out =
            collect _ _ _ _ _ inv.out h _ (o.out ∙ ap (λ (ps : Queue). h ∷ dropped_handles (has_key k) ps) (sym left)) l;
        few = omega (arith, inv.few, o.fewer, ap length left);
      }

  pub ends_none : {n : ℕ} → n ≡ len → ((h : ℕ) → r.answer ≡ Ok (Some h) → ⊥) → len ≤ 8
      → ◌≡◌ {A = Ready} (record { queue = q; handles = record { slots = slots; len = n } }) (ready_of (key 0 addr) q₀)
  ends_none e unheld l = ends (key 0 addr) inv e (none_waits_lem (key 0 addr) (packets q) (sym w.gives ∙ nothing_out r.answer unheld)) l
    where
      nothing_out : (a : Result (Option ℕ) Refusal) → ((h : ℕ) → a ≡ Ok (Some h) → ⊥) → released_out a ≡ []
      nothing_out (Err why) f = refl
      nothing_out (Ok None) f = refl
      nothing_out (Ok (Some h)) f = absurd (f h refl)
