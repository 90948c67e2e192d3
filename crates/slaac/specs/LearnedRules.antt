-- Document 01, "Advertisement", steps 2, 3 and 4: what an advertisement teaches. Request 2026-01: infinite lifetimes. Assumes nothing.
use Rattle.std.specs.Prelude.{ℕ, ◌≡◌, Bool, true, cond, ◌||◌, not, List, [], ◌∷◌, take, drop, length, get_or, ltb, eqb, Option, Some, None}
use Rattle.table.specs.Table.{filled, at_first_is, any_of, if_room}
use Rattle.time.specs.declared.Instant.{Instant}
use Rattle.time.specs.declared.Duration.{Duration}
use Rattle.time.specs.declared.Expiry.{Expiry}
use Rattle.time.specs.declared.Expiry.TheVariants.{At, Forever}
use Rattle.time.specs.TimeRules.{add_of, seconds_of}
use Rattle.wire.specs.declared.ipv6.Ipv6Addr.{Ipv6Addr}
use Rattle.wire.specs.declared.ipv6.Ipv6Cidr.{Ipv6Cidr}
use Rattle.wire.specs.Rfc4291.{is_link_local, is_multicast, same_addr, same_cidr}
use Rattle.ndisc.specs.declared.ndiscoption.PrefixInformation.{PrefixInformation}
use Rattle.slaac.specs.declared.Prefix.{Prefix}
use Rattle.slaac.specs.declared.Router.{Router}
use Rattle.slaac.specs.declared.Phase.{Phase}
use Rattle.slaac.specs.declared.Phase.TheVariants.{Start, Discovering, Maintaining}
use Rattle.slaac.specs.declared.Discovery.{Discovery}
use Rattle.slaac.specs.declared.Slaac.{Slaac}
use Rattle.slaac.specs.Fields.{with_prefixes, with_routers, with_discovery, with_sync, with_state}

-- what a slot that was never used holds
abbrev pub no_time : Instant
no_time = record { 0 = 0 }

abbrev pub unspecified : Ipv6Addr
unspecified = record { hi = 0; lo = 0 }

abbrev pub no_prefix : Prefix
no_prefix = record { cidr = record { address = unspecified; prefix_len = 0 }; preferred_until = At no_time; valid_until = At no_time }

abbrev pub no_router : Router
no_router = record { addr = unspecified; valid_until = no_time }

-- the entries: "prefixes 4, routers 2"; "A count above its size reads as the size"
abbrev pub prefixes_of : Slaac → List Prefix
prefixes_of s = take s.prefix_count s.prefixes

abbrev pub routers_of : Slaac → List Router
routers_of s = take s.router_count s.routers

-- SLAAC with these entries, whose slots past them hold what they held
abbrev pub having_prefixes : Slaac → List Prefix → Slaac
having_prefixes s es = with_prefixes s (filled s.prefixes es) (length es)

abbrev pub having_routers : Slaac → List Router → Slaac
having_routers s es = with_routers s (filled s.routers es) (length es)

-- Step 2

-- "One is skipped if prefix length > 128, autonomous is clear, the prefix is link-local or multicast, or preferred > valid."
abbrev pub is_skipped : PrefixInformation → Bool
is_skipped o =
    (((ltb 128 o.prefix_len || not o.addrconf) || is_link_local o.prefix) || is_multicast o.prefix)
    || ltb o.valid_lifetime o.preferred_lifetime

-- "Entries match on all 16 bytes and the length."
abbrev pub is_prefix : Ipv6Cidr → Prefix → Bool
is_prefix c e = same_cidr e.cidr c

abbrev pub cidr_of : PrefixInformation → Ipv6Cidr
cidr_of o = record { address = o.prefix; prefix_len = o.prefix_len }

-- RFC 4861, 4.6.2, of both lifetimes: "A value of all one bits (0xffffffff) represents infinity."
abbrev pub infinite : ℕ
infinite = 0xffff_ffff

-- request 2026-01: "either a moment or forever"
abbrev pub until_of : Instant → ℕ → Expiry
until_of now s = cond (eqb s infinite) Forever (At (add_of now (seconds_of s)))

-- the option as an entry: both lifetimes count from now
abbrev pub prefix_of : PrefixInformation → Instant → Prefix
prefix_of o now =
    record {
      cidr = cidr_of o;
      preferred_until = until_of now o.preferred_lifetime;
      valid_until = until_of now o.valid_lifetime;
    }

abbrev pub put_over : {A : Type 0} → A → A → List A
put_over x e = x ∷ []

-- "the match is refreshed, else appended; a full table ignores it"; "A refresh, an append and a match with 0 each ask for a sync."
unfoldable pub add_prefix : Slaac → Prefix → Slaac
add_prefix s p =
    with_sync (having_prefixes s (at_first_is (is_prefix p.cidr) (put_over p) (if_room 4 (prefixes_of s) p) (prefixes_of s)))
    (s.sync_required || (any_of (is_prefix p.cidr) (prefixes_of s) || ltb (length (prefixes_of s)) 4))

-- "a match gets both times set to now"
abbrev pub prefix_ends : Instant → Prefix → List Prefix
prefix_ends now e = record { cidr = e.cidr; preferred_until = At now; valid_until = At now } ∷ []

unfoldable pub expire_prefix : Slaac → Ipv6Cidr → Instant → Slaac
expire_prefix s c now =
    with_sync (having_prefixes s (at_first_is (is_prefix c) (prefix_ends now) [] (prefixes_of s)))
    (s.sync_required || any_of (is_prefix c) (prefixes_of s))

-- one option; "Valid > 0: .. Valid = 0: .."
unfoldable pub process_prefix_is : Instant → Slaac → PrefixInformation → Slaac
process_prefix_is now s o =
    cond (is_skipped o) s (cond (ltb 0 o.valid_lifetime) (add_prefix s (prefix_of o now)) (expire_prefix s (cidr_of o) now))

-- Step 3

abbrev pub is_router : Ipv6Addr → Router → Bool
is_router a e = same_addr e.addr a

-- "the source's entry is refreshed or appended, expiring at now + lifetime"; "Full table and sync as in step 2."
unfoldable pub add_router : Slaac → Router → Slaac
add_router s r =
    with_sync (having_routers s (at_first_is (is_router r.addr) (put_over r) (if_room 2 (routers_of s) r) (routers_of s)))
    (s.sync_required || (any_of (is_router r.addr) (routers_of s) || ltb (length (routers_of s)) 2))

-- "0: its entry gets now"
abbrev pub router_ends : Instant → Router → List Router
router_ends now e = record { addr = e.addr; valid_until = now } ∷ []

unfoldable pub expire_router : Slaac → Ipv6Addr → Instant → Slaac
expire_router s a now =
    with_sync (having_routers s (at_first_is (is_router a) (router_ends now) [] (routers_of s)))
    (s.sync_required || any_of (is_router a) (routers_of s))

-- "Router lifetime > 0: .. 0: .."
unfoldable pub process_router_is : Instant → Slaac → Ipv6Addr → Duration → Slaac
process_router_is now s a d =
    cond (ltb 0 d.0) (add_router s (record { addr = a; valid_until = add_of now d })) (expire_router s a now)

-- Step 4

-- "phase Discovering becomes Maintaining. Phase Start stays."
abbrev pub heard_phase : Phase → Phase
heard_phase Start = Start
heard_phase (Discovering t) = Maintaining
heard_phase Maintaining = Maintaining

abbrev pub heard : Discovery → Discovery
heard d = record { phase = heard_phase d.phase; num_solicitations = d.num_solicitations }

-- "Flags are stored; routers-seen becomes true"
abbrev pub store_flags_is : Slaac → Bool → Bool → Slaac
store_flags_is s managed other =
    with_state (with_discovery s (heard s.discovery)) (record { routers_seen = true; managed = managed; other_config = other })

-- Listings: the entry at an index. No call refuses one, so its number is 0; its value is the entry, if there is one

abbrev pub prefix_at : Slaac → ℕ → Option Prefix
prefix_at s i = cond (ltb i (length (prefixes_of s))) (Some (get_or (prefixes_of s) i no_prefix)) None

abbrev pub prefix_at_number : Option Prefix → ℕ
prefix_at_number None = 0
prefix_at_number (Some p) = 0

abbrev pub prefix_at_shown : Option Prefix → List Prefix
prefix_at_shown None = []
prefix_at_shown (Some p) = p ∷ []

pub record PrefixListed (s : Slaac) (i : ℕ) (r : Option Prefix) : Type 0 where
  pub is : r ≡ prefix_at s i
  pub number : prefix_at_number r ≡ 0
  pub shows : prefix_at_shown r ≡ take 1 (drop i (prefixes_of s))

abbrev pub router_at : Slaac → ℕ → Option Router
router_at s i = cond (ltb i (length (routers_of s))) (Some (get_or (routers_of s) i no_router)) None

abbrev pub router_at_number : Option Router → ℕ
router_at_number None = 0
router_at_number (Some r) = 0

abbrev pub router_at_shown : Option Router → List Router
router_at_shown None = []
router_at_shown (Some r) = r ∷ []

pub record RouterListed (s : Slaac) (i : ℕ) (r : Option Router) : Type 0 where
  pub is : r ≡ router_at s i
  pub number : router_at_number r ≡ 0
  pub shows : router_at_shown r ≡ take 1 (drop i (routers_of s))
