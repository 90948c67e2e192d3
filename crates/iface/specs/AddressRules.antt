-- Document 01: an interface's addresses, what the application adds and what SLAAC's sync does to them. Rules are on the entries, a list;
-- slots past the entries keep what they held. Assumes nothing.
use Rattle.std.specs.Prelude.{ℕ, ◌≡◌, Bool, true, false, cond, List, [], ◌∷◌, ◌++◌, take, drop, length, get_or, replicate, ltb, Result, Ok, Err, Option, Some, None}
use Rattle.table.specs.Table.{filled, kept, at_first_is, any_of, first_of, if_room}
use Rattle.wire.specs.declared.ipv6.Ipv6Addr.{Ipv6Addr}
use Rattle.wire.specs.declared.ipv6.Ipv6Cidr.{Ipv6Cidr}
use Rattle.wire.specs.declared.error.Refusal.{Refusal}
use Rattle.wire.specs.Rfc4291.{same_cidr, is_link_local}
use Rattle.wire.specs.Refusals.{Row, first_refusal, check_number, outcome_number, decided, no_such_iface}
use Rattle.iface.specs.declared.addr.AddrOrigin.{AddrOrigin}
use Rattle.iface.specs.declared.addr.AddrOrigin.TheVariants.{Manual, Slaac}
use Rattle.iface.specs.declared.addr.Preferred.{Preferred}
use Rattle.iface.specs.declared.addr.Preferred.TheVariants.{Always}
use Rattle.iface.specs.declared.addr.IfaceAddr.{IfaceAddr}
use Rattle.iface.specs.declared.addr.IfaceAddrs.{IfaceAddrs}
use Rattle.iface.specs.declared.addr.Added.{Added}
use Rattle.iface.specs.declared.addr.Cleared.{Cleared}
use Rattle.iface.specs.Answers.{prefix_too_long, duplicate, no_room_is, source_number, source_shown, addr_at_number, addr_at_shown}

-- the entries: the first `len` slots, "addresses 8 per interface"; "A count above its size reads as the size"
abbrev pub addrs_of : IfaceAddrs → List IfaceAddr
addrs_of t = take t.len t.slots

-- the table with these entries, whose slots past them hold what they held
abbrev pub with_addrs : IfaceAddrs → List IfaceAddr → IfaceAddrs
with_addrs t es = record { slots = filled t.slots es; len = length es }

-- ::/0, the prefix of a default route, and what a slot that was never used holds
abbrev pub anywhere : Ipv6Cidr
anywhere = record { address = record { hi = 0; lo = 0 }; prefix_len = 0 }

abbrev pub no_addr : IfaceAddr
no_addr = record { cidr = anywhere; origin = Manual; preferred = Always }

abbrev pub empty_addrs : IfaceAddrs
empty_addrs = record { slots = replicate 8 no_addr; len = 0 }

abbrev pub is_slaac : AddrOrigin → Bool
is_slaac Manual = false
is_slaac Slaac = true

abbrev pub is_from_slaac : IfaceAddr → Bool
is_from_slaac e = is_slaac e.origin

-- an entry of that address and length
abbrev pub is_addr : Ipv6Cidr → IfaceAddr → Bool
is_addr c e = same_cidr e.cidr c

-- The application's call

-- "What the application adds has no expiry."
abbrev pub manual_addr : Ipv6Cidr → IfaceAddr
manual_addr c = record { cidr = c; origin = Manual; preferred = Always }

-- 7, 14, then 9: "application adds an address already there with that length (any origin)", then 8
abbrev pub addr_rows : ℕ → Ipv6Cidr → List IfaceAddr → List Row
addr_rows iface c es = no_such_iface iface ∷ prefix_too_long c ∷ duplicate (any_of (is_addr c) es) ∷ no_room_is 8 es ∷ []

abbrev pub addr_check : ℕ → Ipv6Cidr → List IfaceAddr → Result (Unit {0}) Refusal
addr_check iface c es = first_refusal (addr_rows iface c es)

abbrev pub not_added : IfaceAddrs → Refusal → Added
not_added t why = record { addrs = t; outcome = Err why }

abbrev pub add_addr_by : Result (Unit {0}) Refusal → IfaceAddrs → Ipv6Cidr → Added
add_addr_by check t c = decided check (not_added t) (record { addrs = with_addrs t (addrs_of t ++ (manual_addr c ∷ [])); outcome = Ok tt })

pub record AddedTo (t : IfaceAddrs) (iface : ℕ) (c : Ipv6Cidr) (r : Added) : Type 0 where
  pub is : r ≡ add_addr_by (addr_check iface c (addrs_of t)) t c
  pub number : outcome_number r.outcome ≡ check_number (addr_check iface c (addrs_of t))

-- SLAAC's calls

abbrev pub slaac_addr : Ipv6Cidr → Preferred → IfaceAddr
slaac_addr c p = record { cidr = c; origin = Slaac; preferred = p }

-- "a SLAAC entry of that address .. takes the new preferred time, an application's entry stays"
abbrev pub refreshed : Preferred → IfaceAddr → List IfaceAddr
refreshed p e = cond (is_from_slaac e) (slaac_addr e.cidr p ∷ []) (e ∷ [])

-- "and a missing one is appended if there is room"
unfoldable pub put_addr : Ipv6Cidr → Preferred → List IfaceAddr → List IfaceAddr
put_addr c p es = at_first_is (is_addr c) (refreshed p) (if_room 8 es (slaac_addr c p)) es

-- "Expired: a SLAAC entry goes and later ones move down."
abbrev pub gone : IfaceAddr → List IfaceAddr
gone e = cond (is_from_slaac e) [] (e ∷ [])

unfoldable pub drop_addr : Ipv6Cidr → List IfaceAddr → List IfaceAddr
drop_addr c es = at_first_is (is_addr c) gone [] es

-- "Turning SLAAC off removes its addresses"; "if an address went"
unfoldable pub clear_addrs : IfaceAddrs → Cleared
clear_addrs t = record { addrs = with_addrs t (kept is_from_slaac (addrs_of t)); any = any_of is_from_slaac (addrs_of t) }

-- "a link-local address in the table (the first is the source)"
abbrev pub is_local : IfaceAddr → Bool
is_local e = is_link_local e.cidr.address

abbrev pub source_of : IfaceAddr → Option Ipv6Addr
source_of e = Some e.cidr.address

unfoldable pub first_local : List IfaceAddr → Option Ipv6Addr
first_local es = first_of is_local source_of None es

-- the address of an entry, and nothing else
abbrev pub address_alone : IfaceAddr → List Ipv6Addr
address_alone e = e.cidr.address ∷ []

pub record LocalOf (t : IfaceAddrs) (r : Option Ipv6Addr) : Type 0 where
  pub is : r ≡ first_local (addrs_of t)
  pub number : source_number r ≡ 0
  pub shows : source_shown r ≡ first_of is_local address_alone [] (addrs_of t)

-- Listing: the entry at an index

abbrev pub addr_at : IfaceAddrs → ℕ → Option IfaceAddr
addr_at t i = cond (ltb i (length (addrs_of t))) (Some (get_or (addrs_of t) i no_addr)) None

pub record AddrListed (t : IfaceAddrs) (i : ℕ) (r : Option IfaceAddr) : Type 0 where
  pub is : r ≡ addr_at t i
  pub number : addr_at_number r ≡ 0
  pub shows : addr_at_shown r ≡ take 1 (drop i (addrs_of t))
