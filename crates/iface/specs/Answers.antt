-- What the calls answer on paper: document 01's number of a refusal, 0 for none, when the application is refused, and the values of each
-- answer. Assumes nothing.
use Rattle.std.specs.Prelude.{ℕ, Bool, List, [], ◌∷◌, length, ltb, leb, Option, Some, None}
use Rattle.wire.specs.declared.ipv6.Ipv6Addr.{Ipv6Addr}
use Rattle.wire.specs.declared.ipv6.Ipv6Cidr.{Ipv6Cidr}
use Rattle.wire.specs.declared.error.Refusal.TheVariants.{PrefixTooLong, Duplicate, Full}
use Rattle.wire.specs.Refusals.{Row, no_such_iface}
use Rattle.iface.specs.declared.addr.IfaceAddr.{IfaceAddr}
use Rattle.iface.specs.declared.route.Route.{Route}

-- Refusals of the application's calls

-- 14: "application's prefix length above 128"
abbrev pub prefix_too_long : Ipv6Cidr → Row
prefix_too_long c = record { refusal = PrefixTooLong; fails = ltb 128 c.prefix_len }

-- 9: what is added is there already
abbrev pub duplicate : Bool → Row
duplicate there = record { refusal = Duplicate; fails = there }

-- 8: "application adds to a full table"
abbrev pub no_room_is : {A : Type 0} → ℕ → List A → Row
no_room_is size es = record { refusal = Full; fails = leb size (length es) }

-- what is tested of the arguments alone
abbrev pub prefix_rows : ℕ → Ipv6Cidr → List Row
prefix_rows iface c = no_such_iface iface ∷ prefix_too_long c ∷ []

-- Answers that no call refuses

abbrev pub source_number : Option Ipv6Addr → ℕ
source_number None = 0
source_number (Some a) = 0

-- the address, if there is one
abbrev pub source_shown : Option Ipv6Addr → List Ipv6Addr
source_shown None = []
source_shown (Some a) = a ∷ []

abbrev pub addr_at_number : Option IfaceAddr → ℕ
addr_at_number None = 0
addr_at_number (Some e) = 0

-- the entry, if there is one
abbrev pub addr_at_shown : Option IfaceAddr → List IfaceAddr
addr_at_shown None = []
addr_at_shown (Some e) = e ∷ []

abbrev pub route_at_number : Option Route → ℕ
route_at_number None = 0
route_at_number (Some e) = 0

abbrev pub route_at_shown : Option Route → List Route
route_at_shown None = []
route_at_shown (Some e) = e ∷ []
