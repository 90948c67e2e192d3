-- Document 01: "Then the state", by its fields: "prefix, length, preferred, valid; router, expiry; address, length, origin, preferred (`-`
-- application's, `never` run out); via, origin, expiry; neighbour, state (`incomplete`, `reachable`, `stale`), hardware address, expiry (`-` if
-- none)". Request 2026-01: "the listing prints `forever`", for a prefix's two times and an address's preferred. Assumes nothing.
use Rattle.std.specs.Prelude.{ℕ, ◌+◌, ◌*◌, List, [], ◌∷◌, ◌++◌, length}
use Rattle.std.specs.Borrow.{MutBor}
use Rattle.text.specs.Decimal.{decimal}
use Rattle.text.specs.Gathered.{Adds, IsSameBuffer}
use Rattle.text.specs.declared.print.Text.{Text}
use Rattle.text.specs.Hex.{hexed}
use Rattle.time.specs.declared.Expiry.{Expiry}
use Rattle.time.specs.declared.Expiry.TheVariants.{At, Forever}
use Rattle.wire.specs.Rfc4291.{address_bytes}
use Rattle.wire.specs.Rfc2464.{hardware_bytes}
use Rattle.wire.specs.declared.ipv6.Ipv6Addr.{Ipv6Addr}
use Rattle.wire.specs.declared.ethernet.HardwareAddress.{HardwareAddress}
use Rattle.slaac.specs.declared.Prefix.{Prefix}
use Rattle.slaac.specs.declared.Router.{Router}
use Rattle.iface.specs.declared.addr.AddrOrigin.{AddrOrigin}
use Rattle.iface.specs.declared.addr.AddrOrigin.TheVariants.{Manual, Slaac}
use Rattle.iface.specs.declared.addr.Preferred.{Preferred}
use Rattle.iface.specs.declared.addr.Preferred.TheVariants.{Always, Until, Never}
use Rattle.iface.specs.declared.addr.IfaceAddr.{IfaceAddr}
use Rattle.iface.specs.declared.route.RouteOrigin.{RouteOrigin}
use Rattle.iface.specs.declared.route.RouteOrigin.TheVariants.{Manual as Added, Slaac as Learned}
use Rattle.iface.specs.declared.route.Route.{Route}
use Rattle.neighbor.specs.declared.State.{State}
use Rattle.neighbor.specs.declared.NeighborState.{NeighborState}
use Rattle.neighbor.specs.declared.NeighborState.TheVariants.{Incomplete as Resolving, Reachable as Known, Stale as Expired}
use Rattle.neighbor.specs.declared.Entry.{Entry}
use Rattle.neighbor.specs.Answers.{listed_state}
use Rattle.report.specs.AnswerLines.{newline, each_line}

-- the words, in ASCII, with the spaces around them
abbrev pub prefixes_word : List ℕ
prefixes_word = 112 ∷ 114 ∷ 101 ∷ 102 ∷ 105 ∷ 120 ∷ 101 ∷ 115 ∷ 32 ∷ []

abbrev pub routers_word : List ℕ
routers_word = 114 ∷ 111 ∷ 117 ∷ 116 ∷ 101 ∷ 114 ∷ 115 ∷ 32 ∷ []

abbrev pub addresses_word : List ℕ
addresses_word = 97 ∷ 100 ∷ 100 ∷ 114 ∷ 101 ∷ 115 ∷ 115 ∷ 101 ∷ 115 ∷ 32 ∷ []

abbrev pub routes_word : List ℕ
routes_word = 114 ∷ 111 ∷ 117 ∷ 116 ∷ 101 ∷ 115 ∷ 32 ∷ []

abbrev pub neighbors_word : List ℕ
neighbors_word = 110 ∷ 101 ∷ 105 ∷ 103 ∷ 104 ∷ 98 ∷ 111 ∷ 114 ∷ 115 ∷ 32 ∷ []

abbrev pub static_word : List ℕ
static_word = 32 ∷ 115 ∷ 116 ∷ 97 ∷ 116 ∷ 105 ∷ 99 ∷ []

abbrev pub slaac_word : List ℕ
slaac_word = 32 ∷ 115 ∷ 108 ∷ 97 ∷ 97 ∷ 99 ∷ []

abbrev pub never_word : List ℕ
never_word = 32 ∷ 110 ∷ 101 ∷ 118 ∷ 101 ∷ 114 ∷ []

abbrev pub forever_word : List ℕ
forever_word = 32 ∷ 102 ∷ 111 ∷ 114 ∷ 101 ∷ 118 ∷ 101 ∷ 114 ∷ []

abbrev pub dash_word : List ℕ
dash_word = 32 ∷ 45 ∷ []

abbrev pub incomplete_word : List ℕ
incomplete_word = 32 ∷ 105 ∷ 110 ∷ 99 ∷ 111 ∷ 109 ∷ 112 ∷ 108 ∷ 101 ∷ 116 ∷ 101 ∷ 32 ∷ 45 ∷ 32 ∷ 45 ∷ []

abbrev pub reachable_word : List ℕ
reachable_word = 32 ∷ 114 ∷ 101 ∷ 97 ∷ 99 ∷ 104 ∷ 97 ∷ 98 ∷ 108 ∷ 101 ∷ 32 ∷ []

abbrev pub stale_word : List ℕ
stale_word = 32 ∷ 115 ∷ 116 ∷ 97 ∷ 108 ∷ 101 ∷ 32 ∷ []

-- what a function leaves that puts these fields of an entry behind what is gathered
abbrev pub PutsFields : {A : Type 0} → (MutBor Text → A → MutBor Text → Type 0) → (A → List ℕ) → Type 0
PutsFields {A} Leaves fields = (t : MutBor Text) (e : A) (t' : MutBor Text) → Leaves t e t' → Adds t.now (fields e) t'.now

-- what a function leaves that keeps the buffer of the text
abbrev pub KeepsBuffer : {A : Type 0} → (MutBor Text → A → MutBor Text → Type 0) → Type 0
KeepsBuffer {A} Leaves = (t : MutBor Text) (e : A) (t' : MutBor Text) → Leaves t e t' → IsSameBuffer t.now t'.now

-- the line of an entry with these fields
abbrev pub ended : {A : Type 0} → (A → List ℕ) → A → List ℕ
ended fields e = fields e ++ newline

-- a table's name and its count
unfoldable pub heading_line : List ℕ → ℕ → List ℕ
heading_line name n = (name ++ decimal n) ++ newline

-- a section: its heading, and a line for each entry
abbrev pub section : {A : Type 0} → List ℕ → (A → List ℕ) → List A → List ℕ
section name line es = heading_line name (length es) ++ each_line line es

unfoldable pub address_field : Ipv6Addr → List ℕ
address_field a = hexed (address_bytes a)

unfoldable pub hardware_field : HardwareAddress → List ℕ
hardware_field a = hexed (hardware_bytes a)

-- a number as a further field
unfoldable pub number_field : ℕ → List ℕ
number_field n = (32 ∷ []) ++ decimal n

-- "either a moment or forever"
abbrev pub end_field : Expiry → List ℕ
end_field (At t) = number_field t.0
end_field Forever = forever_word

-- "prefix, length, preferred, valid"
unfoldable pub prefix_fields : Prefix → List ℕ
prefix_fields p =
    ((address_field p.cidr.address ++ number_field p.cidr.prefix_len) ++ end_field p.preferred_until)
    ++ end_field p.valid_until

unfoldable pub prefix_line : Prefix → List ℕ
prefix_line p = prefix_fields p ++ newline

-- "router, expiry"
unfoldable pub router_fields : Router → List ℕ
router_fields r = address_field r.addr ++ number_field r.valid_until.0

unfoldable pub router_line : Router → List ℕ
router_line r = router_fields r ++ newline

-- "address, length, origin, preferred (`-` application's, `never` run out)"
abbrev pub origin_field : AddrOrigin → List ℕ
origin_field Manual = static_word
origin_field Slaac = slaac_word

abbrev pub preferred_field : Preferred → List ℕ
preferred_field Always = dash_word
preferred_field (Until e) = end_field e
preferred_field Never = never_word

unfoldable pub addr_fields : IfaceAddr → List ℕ
addr_fields e =
    ((address_field e.cidr.address ++ number_field e.cidr.prefix_len) ++ origin_field e.origin) ++ preferred_field e.preferred

unfoldable pub addr_line : IfaceAddr → List ℕ
addr_line e = addr_fields e ++ newline

-- "via, origin, expiry"
abbrev pub route_origin_field : RouteOrigin → List ℕ
route_origin_field Added = static_word
route_origin_field Learned = slaac_word

abbrev pub expiry_field : Expiry → List ℕ
expiry_field Forever = dash_word
expiry_field (At t) = number_field t.0

unfoldable pub route_fields : Route → List ℕ
route_fields e = (address_field e.via_router ++ route_origin_field e.origin) ++ expiry_field e.expires_at

unfoldable pub route_line : Route → List ℕ
route_line e = route_fields e ++ newline

-- "neighbour, state (`incomplete`, `reachable`, `stale`), hardware address, expiry (`-` if none)"; "A listing shows Started as Incomplete."
abbrev pub listed_field : NeighborState → List ℕ
listed_field Resolving = incomplete_word
listed_field (Known h t) = (reachable_word ++ hardware_field h) ++ number_field t.0
listed_field (Expired h) = (stale_word ++ hardware_field h) ++ dash_word

abbrev pub neighbor_field : State → List ℕ
neighbor_field s = listed_field (listed_state s)

unfoldable pub neighbor_fields : Entry → List ℕ
neighbor_fields e = address_field e.addr ++ neighbor_field e.state

unfoldable pub neighbor_line : Entry → List ℕ
neighbor_line e = neighbor_fields e ++ newline

-- what a section of a table of that size has at most. A heading: a name of at most 10 bytes with its space, a count of at most 20 digits, and the
-- line's end. A line: the 32 digits of an address, 63 bytes of further fields (of a prefix three numbers, each with a space in front), and its end
abbrev pub section_most : ℕ → ℕ
section_most size = (10 + 20 + 1) + (32 + 3 * 21 + 1) * size

-- the sections, in their order
unfoldable pub prefixes_text : List Prefix → List ℕ
prefixes_text ps = section prefixes_word prefix_line ps

unfoldable pub routers_text : List Router → List ℕ
routers_text rs = section routers_word router_line rs

unfoldable pub addresses_text : List IfaceAddr → List ℕ
addresses_text es = section addresses_word addr_line es

unfoldable pub routes_text : List Route → List ℕ
routes_text es = section routes_word route_line es

unfoldable pub neighbors_text : List Entry → List ℕ
neighbors_text es = section neighbors_word neighbor_line es

unfoldable pub state_text : List Prefix → List Router → List IfaceAddr → List Route → List Entry → List ℕ
state_text ps rs es os ns = (((prefixes_text ps ++ routers_text rs) ++ addresses_text es) ++ routes_text os) ++ neighbors_text ns

-- the five sections have at most 415 + 223 + 799 + 799 + 1,567 = 3,803 bytes, and so no more than these
abbrev pub state_most : ℕ
state_most = 4096
