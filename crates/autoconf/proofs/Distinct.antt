-- No address twice, over the calls.
use Prim.Native.Nat.{ℕ}
use mathlib.Core.Bool.{Bool, true, false, cond}
use mathlib.Core.List.{List, [], ◌∷◌}
use mathlib.Core.Path.{◌≡◌, refl, ap, sym, ◌∙◌, subst}
use Rattle.std.specs.Prelude.{Result, Ok, Err}
use Rattle.wire.specs.declared.error.Refusal.{Refusal}
use Rattle.iface.proofs.Distinct.{once_new, once_added, once_put, once_drop, once_clear, put_slaac_lem, drop_slaac_lem}
use Rattle.iface.specs.AddressRules.{addrs_of, with_addrs, put_addr, drop_addr}
use Rattle.iface.specs.Distinct.{AddrsOnce}
use Rattle.iface.specs.declared.addr.IfaceAddrs.{IfaceAddrs}
use Rattle.iface.specs.declared.addr.Preferred.{Preferred}
use Rattle.iface.specs.declared.route.Routes.{Routes}
use Rattle.neighbor.specs.declared.NeighborCache.{NeighborCache}
use Rattle.pending.specs.declared.PendingQueue.{PendingQueue}
use Rattle.slaac.specs.ExpiryRules.{sync_due}
use Rattle.slaac.specs.LearnedRules.{prefixes_of}
use Rattle.slaac.specs.declared.Prefix.{Prefix}
use Rattle.slaac.specs.declared.Slaac.{Slaac}
use Rattle.table.specs.Table.{fold_over}
use Rattle.time.specs.ClockRules.{is_after}
use Rattle.time.specs.declared.Clock.{Clock}
use Rattle.time.specs.declared.Instant.{Instant}
use Rattle.wire.specs.Refusals.{iface_check, time_check}
use Rattle.wire.specs.Rfc2464.{formed_of}
use Rattle.wire.specs.declared.ethernet.HardwareAddress.{HardwareAddress}
use Rattle.wire.specs.declared.ipv6.Formed.TheVariants.{Nothing, Addr}
use Rattle.wire.specs.declared.ipv6.Formed.{Formed}
use Rattle.autoconf.specs.Distinct.{slaac_formed, slaac_prefix, slaac_addrs, AddressesOnce}
use Rattle.autoconf.specs.OffRules.{off_now, left_alone, off_by, TurnedOffTo}
use Rattle.autoconf.specs.PollRules.{polled, synced, sync_turn, poll_on, poll_by, PolledTo}
use Rattle.autoconf.specs.SyncRules.{preferred_of, sync_formed, sync_prefix, sync_addrs}
use Rattle.autoconf.specs.declared.PollAnswer.TheVariants.{Off}
use Rattle.autoconf.specs.declared.PollAnswer.{PollAnswer}
use Rattle.autoconf.specs.declared.PolledAt.{PolledAt}
use Rattle.autoconf.specs.declared.TurnedOff.{TurnedOff}

-- One prefix

module _ (now : Instant) (t : IfaceAddrs) (p : Prefix) (o : AddrsOnce t) where
  once_formed : (f : Formed) → AddrsOnce (sync_formed f now t p)
  once_formed Nothing = o
  once_formed (Addr a) = go (is_after p.valid_until now)
    where
      until : Preferred
      until = preferred_of now p.preferred_until

      go : (b : Bool) → AddrsOnce (cond b (with_addrs t (put_addr a until (addrs_of t))) (with_addrs t (drop_addr a (addrs_of t))))
      go true = once_put t a until o
      go false = once_drop t a o

  formed_slaac : (f : Formed) → sync_formed f now t p ≡ slaac_formed f now t p
  formed_slaac Nothing = refl
  formed_slaac (Addr a) =
      λ i. cond (is_after p.valid_until now) (with_addrs t (put_slaac_lem t a (preferred_of now p.preferred_until) o i)) (with_addrs t (drop_slaac_lem t a o i))

-- All of them

module _ (hw : HardwareAddress) (now : Instant) where
  once_prefixes : (ps : List Prefix) (t : IfaceAddrs) → AddrsOnce t → AddrsOnce (fold_over (sync_prefix hw now) t ps)
  unfolding sync_prefix
  once_prefixes [] t o = o
  once_prefixes (p ∷ ps) t o = once_prefixes ps (sync_prefix hw now t p) (once_formed now t p o (formed_of hw p.cidr))

  prefixes_slaac : (ps : List Prefix) (t : IfaceAddrs) → AddrsOnce t → fold_over (sync_prefix hw now) t ps ≡ fold_over (slaac_prefix hw now) t ps
  unfolding sync_prefix
  prefixes_slaac [] t o = refl
  prefixes_slaac (p ∷ ps) t o =
      prefixes_slaac ps (sync_prefix hw now t p) (once_formed now t p o (formed_of hw p.cidr))
      ∙ ap (λ (x : IfaceAddrs). fold_over (slaac_prefix hw now) x ps) (formed_slaac now t p o (formed_of hw p.cidr))

  once_sync : (t : IfaceAddrs) (s : Slaac) → AddrsOnce t → AddrsOnce (sync_addrs hw now t s)
  unfolding sync_addrs
  once_sync t s o = once_prefixes (prefixes_of s) t o

  sync_slaac : (t : IfaceAddrs) (s : Slaac) → AddrsOnce t → sync_addrs hw now t s ≡ slaac_addrs hw now t s
  unfolding sync_addrs
  sync_slaac t s o = prefixes_slaac (prefixes_of s) t o

-- The calls

once_turn : (s : Slaac) (t : IfaceAddrs) (r : Routes) (iface : ℕ) (hw : HardwareAddress) (now : Instant) (k : Clock) (a : Result PollAnswer Refusal) → AddrsOnce t
    → AddrsOnce (sync_turn s t r iface hw now k a).polled.addrs
unfolding sync_turn
once_turn s t r iface hw now k a o = go (sync_due s k).expired
  where
    go : (b : Bool)
        → AddrsOnce
        (cond {A = PolledAt} b (synced s t r iface hw now (sync_due s k).clock a) (polled s t r (sync_due s k).clock a)).polled.addrs
    go true = once_sync hw now t s o
    go false = o

module _ (s : Slaac) (t : IfaceAddrs) (r : Routes) (iface : ℕ) where
  module _ (up : Bool) (hw : HardwareAddress) (buf : List ℕ) (k : Clock) (p : PolledAt) (buf' : List ℕ) where
    once_poll : PolledTo s t r iface up hw buf k p buf' → AddrsOnce t → AddrsOnce p.polled.addrs
    unfolding poll_on
    once_poll w o = subst (λ (x : PolledAt). AddrsOnce x.polled.addrs) (sym w.is) (by (time_check k.now iface))
      where
        on : (b : Bool) → AddrsOnce (cond {A = PolledAt} b (poll_on s t r iface up hw buf k) (polled s t r k (Ok Off))).polled.addrs
        on true = once_turn _ t r iface hw k.now _ _ o
        on false = o

        by : (c : Result (Unit {0}) Refusal) → AddrsOnce (poll_by c s t r iface up hw buf k).polled.addrs
        by (Err why) = o
        by (Ok tt) = on s.on

  module _ (c : NeighborCache) (q : PendingQueue) (x : TurnedOff) where
    once_off : TurnedOffTo s t r c q iface x → AddrsOnce t → AddrsOnce x.addrs
    unfolding off_now
    once_off w o = subst (λ (y : TurnedOff). AddrsOnce y.addrs) (sym w.is) (by (iface_check iface))
      where
        on : (b : Bool) → AddrsOnce (cond {A = TurnedOff} b (off_now t r c q iface) (left_alone s t r c q (Ok tt))).addrs
        on true = once_clear t o
        on false = o

        by : (k : Result (Unit {0}) Refusal) → AddrsOnce (off_by k s t r c q iface).addrs
        by (Err why) = o
        by (Ok tt) = on s.on

pub addresses_once : AddressesOnce
addresses_once =
    record {
      new = once_new;
      add_ip_addr = once_added;
      poll = λ s t r iface up hw buf k p buf'. once_poll s t r iface up hw buf k p buf';
      turn_off = λ s t r c q iface x. once_off s t r iface c q x;
      sync = λ hw now t s. sync_slaac hw now t s;
    }
