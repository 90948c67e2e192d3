-- No address twice. Document 01's sync speaks of "a SLAAC entry of that address and length 64"; `put_addr` and `drop_addr` take the first
-- entry of the address and length, whoever put it there. The two agree where no address stands twice with one length, and no call of this
-- crate brings that about. Routes owe nothing here: `put_route` and `drop_route` look for SLAAC's own route of the interface. Assumes nothing.
use Rattle.std.specs.Prelude.{ℕ, ◌≤◌, ◌≡◌, Bool, cond, ◌&&◌, List, [], ◌∷◌, length}
use Rattle.table.specs.Table.{dropped, at_first_is, any_of, if_room}
use Rattle.wire.specs.declared.ipv6.Ipv6Cidr.{Ipv6Cidr}
use Rattle.iface.specs.declared.addr.Preferred.{Preferred}
use Rattle.iface.specs.declared.addr.IfaceAddr.{IfaceAddr}
use Rattle.iface.specs.declared.addr.IfaceAddrs.{IfaceAddrs}
use Rattle.iface.specs.declared.addr.Added.{Added}
use Rattle.iface.specs.AddressRules.{addrs_of, with_addrs, empty_addrs, is_from_slaac, is_addr, AddedTo, slaac_addr, put_addr, drop_addr, clear_addrs}

-- the entries of that address and length
abbrev pub entries_of : Ipv6Cidr → List IfaceAddr → List IfaceAddr
entries_of c es = dropped (is_addr c) es

pub record Distinct (es : List IfaceAddr) : Type 0 where
  pub once : (c : Ipv6Cidr) → length (entries_of c es) ≤ 1

-- no address stands twice with one length
abbrev pub AddrsOnce : IfaceAddrs → Type 0
AddrsOnce t = Distinct (addrs_of t)

-- The sync's rules, of the SLAAC entry

abbrev pub is_slaac_addr : Ipv6Cidr → IfaceAddr → Bool
is_slaac_addr c e = is_addr c e && is_from_slaac e

-- "a SLAAC entry of that address and length 64 takes the new preferred time"
abbrev pub renewed : Preferred → IfaceAddr → List IfaceAddr
renewed p e = slaac_addr e.cidr p ∷ []

-- "an application's entry stays, and a missing one is appended if there is room"
abbrev pub if_missing : Ipv6Cidr → Preferred → List IfaceAddr → List IfaceAddr
if_missing c p es = cond (any_of (is_addr c) es) [] (if_room 8 es (slaac_addr c p))

abbrev pub put_slaac : Ipv6Cidr → Preferred → List IfaceAddr → List IfaceAddr
put_slaac c p es = at_first_is (is_slaac_addr c) (renewed p) (if_missing c p es) es

-- "Expired: a SLAAC entry goes and later ones move down."
abbrev pub leaving : IfaceAddr → List IfaceAddr
leaving e = []

abbrev pub drop_slaac : Ipv6Cidr → List IfaceAddr → List IfaceAddr
drop_slaac c es = at_first_is (is_slaac_addr c) leaving [] es

-- A new table has no address twice, each call keeps it so, and then the sync's rules are those of the SLAAC entry.
pub record AddrsOnceLaw : Type 0 where
  pub new : AddrsOnce empty_addrs
  pub added : (t : IfaceAddrs) (iface : ℕ) (c : Ipv6Cidr) (r : Added) → AddedTo t iface c r → AddrsOnce t → AddrsOnce r.addrs
  pub put : (t : IfaceAddrs) (c : Ipv6Cidr) (p : Preferred) → AddrsOnce t → AddrsOnce (with_addrs t (put_addr c p (addrs_of t)))
  pub drop : (t : IfaceAddrs) (c : Ipv6Cidr) → AddrsOnce t → AddrsOnce (with_addrs t (drop_addr c (addrs_of t)))
  pub clear : (t : IfaceAddrs) → AddrsOnce t → AddrsOnce (clear_addrs t).addrs
  pub put_slaac_lem : (t : IfaceAddrs) (c : Ipv6Cidr) (p : Preferred) → AddrsOnce t → put_addr c p (addrs_of t) ≡ put_slaac c p (addrs_of t)
  pub drop_slaac_lem : (t : IfaceAddrs) (c : Ipv6Cidr) → AddrsOnce t → drop_addr c (addrs_of t) ≡ drop_slaac c (addrs_of t)
