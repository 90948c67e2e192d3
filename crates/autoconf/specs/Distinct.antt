-- No address twice, over the calls that have the address table. Document 01's sync speaks of "a SLAAC entry of that address and length 64";
-- `sync_addrs` goes by the first entry of the address, whoever put it there. With no address twice the two are one. Assumes nothing.
use Rattle.std.specs.Prelude.{ℕ, ◌≡◌, Bool, cond, List}
use Rattle.table.specs.Table.{fold_over}
use Rattle.time.specs.declared.Instant.{Instant}
use Rattle.time.specs.declared.Clock.{Clock}
use Rattle.time.specs.ClockRules.{is_after}
use Rattle.wire.specs.declared.ethernet.HardwareAddress.{HardwareAddress}
use Rattle.wire.specs.declared.ipv6.Formed.{Formed}
use Rattle.wire.specs.declared.ipv6.Formed.TheVariants.{Nothing, Addr}
use Rattle.wire.specs.declared.ipv6.Ipv6Cidr.{Ipv6Cidr}
use Rattle.wire.specs.Rfc2464.{formed_of}
use Rattle.neighbor.specs.declared.NeighborCache.{NeighborCache}
use Rattle.pending.specs.declared.PendingQueue.{PendingQueue}
use Rattle.iface.specs.declared.addr.IfaceAddrs.{IfaceAddrs}
use Rattle.iface.specs.declared.addr.Added.{Added}
use Rattle.iface.specs.declared.route.Routes.{Routes}
use Rattle.iface.specs.AddressRules.{addrs_of, with_addrs, empty_addrs, AddedTo}
use Rattle.iface.specs.Distinct.{AddrsOnce, put_slaac, drop_slaac}
use Rattle.slaac.specs.declared.Prefix.{Prefix}
use Rattle.slaac.specs.declared.Slaac.{Slaac}
use Rattle.slaac.specs.LearnedRules.{prefixes_of}
use Rattle.autoconf.specs.declared.PolledAt.{PolledAt}
use Rattle.autoconf.specs.declared.TurnedOff.{TurnedOff}
use Rattle.autoconf.specs.SyncRules.{preferred_of, sync_addrs}
use Rattle.autoconf.specs.PollRules.{PolledTo}
use Rattle.autoconf.specs.OffRules.{TurnedOffTo}

-- "Valid (valid-until > now): a SLAAC entry of that address and length 64 takes the new preferred time, an application's entry stays, and a
-- missing one is appended if there is room." "Expired: a SLAAC entry goes and later ones move down."
abbrev pub slaac_formed : Formed → Instant → IfaceAddrs → Prefix → IfaceAddrs
slaac_formed Nothing now t p = t
slaac_formed (Addr a) now t p =
    cond (is_after p.valid_until now)
    (with_addrs t (put_slaac a (preferred_of now p.preferred_until) (addrs_of t)))
    (with_addrs t (drop_slaac a (addrs_of t)))

abbrev pub slaac_prefix : HardwareAddress → Instant → IfaceAddrs → Prefix → IfaceAddrs
slaac_prefix hw now t p = slaac_formed (formed_of hw p.cidr) now t p

-- "Prefixes in table order"
abbrev pub slaac_addrs : HardwareAddress → Instant → IfaceAddrs → Slaac → IfaceAddrs
slaac_addrs hw now t s = fold_over (slaac_prefix hw now) t (prefixes_of s)

-- A new table has no address twice, each call that keeps its promise keeps it so, and then the sync is that of the SLAAC entries.
pub record AddressesOnce : Type 0 where
  pub new : AddrsOnce empty_addrs
  pub add_ip_addr : (t : IfaceAddrs) (iface : ℕ) (c : Ipv6Cidr) (r : Added) → AddedTo t iface c r → AddrsOnce t → AddrsOnce r.addrs
  pub poll : (s : Slaac) (t : IfaceAddrs) (r : Routes) (iface : ℕ) (up : Bool) (hw : HardwareAddress) (buf : List ℕ) (k : Clock) (p : PolledAt)
      (buf' : List ℕ) → PolledTo s t r iface up hw buf k p buf' → AddrsOnce t → AddrsOnce p.polled.addrs
  pub turn_off : (s : Slaac) (t : IfaceAddrs) (r : Routes) (c : NeighborCache) (q : PendingQueue) (iface : ℕ) (x : TurnedOff)
      → TurnedOffTo s t r c q iface x → AddrsOnce t → AddrsOnce x.addrs
  pub sync : (hw : HardwareAddress) (now : Instant) (t : IfaceAddrs) (s : Slaac) → AddrsOnce t → sync_addrs hw now t s ≡ slaac_addrs hw now t s
