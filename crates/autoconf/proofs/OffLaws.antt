-- Laws of turning SLAAC off.
use Prim.Native.Nat.{ℕ}
use mathlib.Core.Bool.{Bool, true, false}
use mathlib.Core.List.{[]}
use mathlib.Core.Path.{◌≡◌, refl, ap, sym, ◌∙◌}
use Rattle.std.specs.Prelude.{Result, Ok}
use Rattle.wire.specs.declared.error.Refusal.{Refusal}
use Rattle.iface.specs.AddressRules.{clear_addrs}
use Rattle.iface.specs.RouteRules.{routes_of, with_routes, clear_routes}
use Rattle.iface.specs.declared.addr.Cleared.{Cleared}
use Rattle.iface.specs.declared.addr.IfaceAddrs.{IfaceAddrs}
use Rattle.iface.specs.declared.route.Routes.{Routes}
use Rattle.wire.specs.Refusals.{outcome_number, iface_check, check_number}
use Rattle.slaac.specs.DiscoveryRules.{fresh}
use Rattle.slaac.specs.declared.Slaac.{Slaac}
use Rattle.neighbor.specs.CacheCalls.{clear_in, change_by, ClearTo}
use Rattle.neighbor.specs.declared.Changed.{Changed}
use Rattle.neighbor.specs.declared.NeighborCache.{NeighborCache}
use Rattle.pending.specs.QueueCalls.{handles_of, purged_of, purge_by, PurgedTo}
use Rattle.pending.specs.QueueRules.{on_iface}
use Rattle.pending.specs.declared.Handles.{Handles}
use Rattle.pending.specs.declared.PendingQueue.{PendingQueue}
use Rattle.pending.specs.declared.Purged.{Purged}
use Rattle.autoconf.proofs.PollLaws.{on_yes}
use Rattle.autoconf.specs.OffRules.{turned_off, cleared_cache, cleared_queue, cleared_handles, off_now, left_alone, off_by, TurnedOffTo}
use Rattle.autoconf.specs.declared.TurnedOff.{TurnedOff}

module _ (s : Slaac) (t : IfaceAddrs) (r : Routes) (c : NeighborCache) (q : PendingQueue) (iface : ℕ) where
  module _ (e : iface_check iface ≡ Ok tt) where
    fine : (x : TurnedOff) → x ≡ off_by (Ok tt) s t r c q iface → outcome_number x.outcome ≡ 0 → TurnedOffTo s t r c q iface x
    fine x f n =
        record { is = f ∙ ap (λ (k : Result (Unit {0}) Refusal). off_by k s t r c q iface) (sym e); number = n ∙ ap check_number (sym e) }

    module _ (o : s.on ≡ true) (z : Slaac) (f : z ≡ fresh false) (x : Cleared) (g : x ≡ clear_addrs t) (r' : Routes)
        (h : r' ≡ with_routes r (clear_routes iface (routes_of r))) where
      went : (b : Bool) → x.any ≡ b → (c' : NeighborCache) (q' : PendingQueue) (hs : Handles) → c' ≡ cleared_cache b c iface → q' ≡ cleared_queue b q iface
          → hs ≡ cleared_handles b q iface → TurnedOffTo s t r c q iface (turned_off z x.addrs r' c' q' hs (Ok tt))
      unfolding off_now
      went b w c' q' hs l m n =
          let y : turned_off z x.addrs r' c' q' hs (Ok tt) ≡ off_now t r c q iface =
          λ i. turned_off (f i) (g i).addrs (h i) (a i) (d i) (u i) (Ok tt) in
          fine (turned_off z x.addrs r' c' q' hs (Ok tt))
          (on_yes s.on (off_now t r c q iface) (left_alone s t r c q (Ok tt)) (turned_off z x.addrs r' c' q' hs (Ok tt)) o y) refl
        where
          any : b ≡ (clear_addrs t).any
          any = sym w ∙ ap (λ (p : Cleared). p.any) g

          a : c' ≡ cleared_cache (clear_addrs t).any c iface
          a = l ∙ ap (λ (p : Bool). cleared_cache p c iface) any

          d : q' ≡ cleared_queue (clear_addrs t).any q iface
          d = m ∙ ap (λ (p : Bool). cleared_queue p q iface) any

          u : hs ≡ cleared_handles (clear_addrs t).any q iface
          u = n ∙ ap (λ (p : Bool). cleared_handles p q iface) any

      -- no address went
      pub off_plain : x.any ≡ false → (hs : Handles) → hs ≡ handles_of [] → TurnedOffTo s t r c q iface (turned_off z x.addrs r' c q hs (Ok tt))
      off_plain w hs n = went false w c q hs refl refl n

      -- one did
      pub off_clears : x.any ≡ true → (n : Changed) → ClearTo c iface n → (p : Purged) → PurgedTo q iface p
          → TurnedOffTo s t r c q iface (turned_off z x.addrs r' n.cache p.queue p.handles (Ok tt))
      unfolding purged_of
      off_clears w n k p l =
          let purged : p ≡ purge_by (Ok tt) q (on_iface iface) = l.is ∙ ap (λ (y : Result (Unit {0}) Refusal). purge_by y q (on_iface iface)) e in
          went true w n.cache p.queue p.handles
          (ap (λ (y : Changed). y.cache) (k.is ∙ ap (λ (y : Result (Unit {0}) Refusal). change_by y c (clear_in c iface)) e))
          (ap (λ (y : Purged). y.queue) purged) (ap (λ (y : Purged). y.handles) purged)
