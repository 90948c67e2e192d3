-- How long the printed texts are at most: `event_most` bytes for an event, `state_most` for the state. Assumes nothing.
use Prim.Native.Nat.{ℕ, zero, suc, ◌+◌, ◌*◌, ◌/◌, ◌%◌, ◌≤◌}
use lib.Dec.{ltb}
use lib.ListN.{length, take, length-append}
use mathlib.Core.Bool.{Bool, true, false, cond}
use mathlib.Core.List.{List, [], ◌∷◌, ◌++◌}
use mathlib.Core.Path.{◌≡◌}
use native.Mathlib.Numerals.{unary_clauses}
use native.Mathlib.Omega.{arith}
use Rattle.iface.specs.declared.addr.AddrOrigin.TheVariants.{Manual, Slaac}
use Rattle.iface.specs.declared.addr.AddrOrigin.{AddrOrigin}
use Rattle.iface.specs.declared.addr.IfaceAddr.{IfaceAddr}
use Rattle.iface.specs.declared.addr.Preferred.TheVariants.{Always, Until, Never}
use Rattle.iface.specs.declared.addr.Preferred.{Preferred}
use Rattle.iface.specs.declared.route.Route.{Route}
use Rattle.iface.specs.declared.route.RouteOrigin.TheVariants.{Manual as Added, Slaac as Learned}
use Rattle.iface.specs.declared.route.RouteOrigin.{RouteOrigin}
use Rattle.slaac.specs.declared.Prefix.{Prefix}
use Rattle.slaac.specs.declared.Router.{Router}
use Rattle.neighbor.specs.declared.Entry.{Entry}
use Rattle.neighbor.specs.declared.State.TheVariants.{Started, Incomplete, Reachable, Stale}
use Rattle.neighbor.specs.declared.State.{State}
use Rattle.report.specs.AnswerLines.{newline, each_line, solicit_word, refused_word, off_word, bad_word, retransmit_word, failed_word, solicit_line, refused_line, off_line, bad_line, address_line, probe_line, probe_lines, event_most}
use Rattle.report.specs.StateLines.{heading_line, section, address_field, hardware_field, number_field, end_field, prefix_fields, prefix_line, router_fields, router_line, origin_field, preferred_field, addr_fields, addr_line, route_origin_field, expiry_field, route_fields, route_line, neighbor_field, neighbor_fields, neighbor_line, prefixes_text, routers_text, addresses_text, routes_text, neighbors_text, state_text, section_most, state_most, reachable_word, stale_word, dash_word, prefixes_word, routers_word, addresses_word, routes_word, neighbors_word}
use Rattle.sweep.specs.declared.Events.{Events}
use Rattle.sweep.specs.declared.ProbeEvent.TheVariants.{Retransmit, Failed}
use Rattle.sweep.specs.declared.ProbeEvent.{ProbeEvent}
use Rattle.text.proofs.HexLaws.{hexed_length}
use Rattle.text.specs.Decimal.{decimal_by, decimal}
use Rattle.text.specs.Hex.{hexed}
use Rattle.time.specs.declared.Expiry.TheVariants.{At, Forever}
use Rattle.time.specs.declared.Expiry.{Expiry}
use Rattle.wire.specs.Rfc2464.{hardware_bytes}
use Rattle.wire.specs.Rfc4291.{address_bytes}
use Rattle.wire.specs.declared.ethernet.HardwareAddress.{HardwareAddress}
use Rattle.wire.specs.declared.ipv6.Ipv6Addr.{Ipv6Addr}

-- ---- fields

digits_by : (f n : ℕ) (t : Bool) → length (decimal_by f (n / 10)) ≤ f
    → length (cond t ((48 + n) ∷ []) (decimal_by f (n / 10) ++ ((48 + n % 10) ∷ []))) ≤ suc f
digits_by f n true h = omega arith
digits_by f n false h = rw length-append (omega arith)

digits_short : (f n : ℕ) → length (decimal_by f n) ≤ f
digits_short zero n = omega arith
digits_short (suc f) n = digits_by f n (ltb n 10) (digits_short f (n / 10))

decimal_short : (n : ℕ) → length (decimal n) ≤ 20
unfolding decimal
decimal_short n = digits_short 20 n

-- a text of at most so many bytes
pub record Short (a : List ℕ) (m : ℕ) : Type 0 where
  pub is : length a ≤ m

-- texts one after the other
then : {a b : List ℕ} {m n : ℕ} → Short a m → Short b n → Short (a ++ b) (m + n)
then {a} {b} {m} {n} h k = let x = h.is in let y = k.is in record { is = rw (length-append a b) (omega arith) }

at_most : {a : List ℕ} {m : ℕ} (n : ℕ) → Short a m → m ≤ n → Short a n
at_most n h k = let x = h.is in record { is = omega arith }

number : (n : ℕ) → Short (decimal n) 20
number n = record { is = decimal_short n }

hex_of : (bs : List ℕ) (m : ℕ) → length bs ≤ m → Short (hexed bs) (2 * m)
hex_of bs m h = let e = hexed_length bs in record { is = omega arith }

end : Short newline 1
end = record { is = omega arith }

-- ---- lines of an event

pub solicit_short : (t : ℕ) (message : List ℕ) → length message ≤ 16 → Short (solicit_line t message) event_most
unfolding solicit_line
solicit_short t message h =
    at_most event_most (then (then (then {b = solicit_word} {n = 9} (number t) (record { is = omega arith })) (hex_of message 16 h)) end) (omega arith)

pub refused_short : (t n : ℕ) → Short (refused_line t n) event_most
unfolding refused_line
refused_short t n = at_most event_most (then (then (then {b = refused_word} {n = 9} (number t) (record { is = omega arith })) (number n)) end) (omega arith)

pub off_short : (t : ℕ) → Short (off_line t) event_most
unfolding off_line
off_short t = at_most event_most (then {b = off_word} {n = 5} (number t) (record { is = omega arith })) (omega arith)

pub bad_short : (n : ℕ) → Short (bad_line n) 30
unfolding bad_line
bad_short n = then (then {a = bad_word} {m = 9} (record { is = omega arith }) (number n)) end

word_short : (t : ℕ) (word : List ℕ) (a : Ipv6Addr) → length word ≤ 12 → Short (address_line t word a) 65
word_short t word a h = then (then (then {b = word} {n = 12} (number t) (record { is = h })) (hex_of (address_bytes a) 16 (omega arith))) end

probe_short : (t : ℕ) (v : ProbeEvent) → Short (probe_line t v) 65
probe_short t (Retransmit a) = word_short t retransmit_word a (omega arith)
probe_short t (Failed a) = word_short t failed_word a (omega arith)

mul_more : (a b : ℕ) → a * suc b ≡ a + a * b
mul_more a b = simp unary_clauses (omega arith)

each_short : {A : Type 0} (line : A → List ℕ) (m : ℕ) → ((x : A) → Short (line x) m) → (xs : List A) (n : ℕ) → length xs ≤ n → Short (each_line line xs) (m * n)
each_short line m w [] n h = record { is = omega arith }
each_short line m w (x ∷ xs) zero h = absurd (omega arith)
each_short line m w (x ∷ xs) (suc n) h = rw (mul_more m n) (then (w x) (each_short line m w xs n (omega arith)))

pub probes_short : (t : ℕ) (v : Events) → length (take v.len v.slots) ≤ 16 → length (probe_lines t v) ≤ event_most
unfolding probe_lines
probes_short t v h = (each_short (probe_line t) 65 (probe_short t) (take v.len v.slots) 16 h).is

-- ---- lines of the state

number_short : (n : ℕ) → Short (number_field n) 21
unfolding number_field
number_short n = then {a = 32 ∷ []} {m = 1} (record { is = omega arith }) (number n)

end_short : (e : Expiry) → Short (end_field e) 21
end_short (At t) = number_short t.0
end_short Forever = record { is = omega arith }

address : (a : Ipv6Addr) → Short (address_field a) 32
unfolding address_field
address a = hex_of (address_bytes a) 16 (omega arith)

hardware : (a : HardwareAddress) → Short (hardware_field a) 12
unfolding hardware_field
hardware a = hex_of (hardware_bytes a) 6 (omega arith)

prefix_short : (p : Prefix) → Short (prefix_line p) 96
unfolding prefix_line prefix_fields
prefix_short p =
    then (then (then (then (address p.cidr.address) (number_short p.cidr.prefix_len)) (end_short p.preferred_until)) (end_short p.valid_until)) end

router_short : (r : Router) → Short (router_line r) 96
unfolding router_line router_fields
router_short r = at_most 96 (then (then (address r.addr) (number_short r.valid_until.0)) end) (omega arith)

origin_short : (o : AddrOrigin) → Short (origin_field o) 7
origin_short Manual = record { is = omega arith }
origin_short Slaac = record { is = omega arith }

preferred_short : (p : Preferred) → Short (preferred_field p) 21
preferred_short Always = record { is = omega arith }
preferred_short (Until e) = end_short e
preferred_short Never = record { is = omega arith }

addr_short : (e : IfaceAddr) → Short (addr_line e) 96
unfolding addr_line addr_fields
addr_short e =
    at_most 96
    (then (then (then (then (address e.cidr.address) (number_short e.cidr.prefix_len)) (origin_short e.origin)) (preferred_short e.preferred)) end)
    (omega arith)

route_origin_short : (o : RouteOrigin) → Short (route_origin_field o) 7
route_origin_short Added = record { is = omega arith }
route_origin_short Learned = record { is = omega arith }

expiry_short : (p : Expiry) → Short (expiry_field p) 21
expiry_short Forever = record { is = omega arith }
expiry_short (At t) = number_short t.0

route_short : (e : Route) → Short (route_line e) 96
unfolding route_line route_fields
route_short e =
    at_most 96 (then (then (then (address e.via_router) (route_origin_short e.origin)) (expiry_short e.expires_at)) end) (omega arith)

state_field_short : (s : State) → Short (neighbor_field s) 63
state_field_short Started = record { is = omega arith }
state_field_short (Incomplete p t) = record { is = omega arith }
state_field_short (Reachable h t) =
    at_most 63 (then (then {a = reachable_word} {m = 11} (record { is = omega arith }) (hardware h)) (number_short t.0)) (omega arith)
state_field_short (Stale h) =
    at_most 63 (then {b = dash_word} {n = 2} (then {a = stale_word} {m = 7} (record { is = omega arith }) (hardware h)) (record { is = omega arith })) (omega arith)

neighbor_short : (e : Entry) → Short (neighbor_line e) 96
unfolding neighbor_line neighbor_fields
neighbor_short e = then (then (address e.addr) (state_field_short e.state)) end

heading_short : (name : List ℕ) (n : ℕ) → length name ≤ 10 → Short (heading_line name n) 31
unfolding heading_line
heading_short name n h = then (then {a = name} {m = 10} (record { is = h }) (number n)) end

section_short : {A : Type 0} (name : List ℕ) (line : A → List ℕ) (es : List A) (n : ℕ) → length name ≤ 10 → ((x : A) → Short (line x) 96) → length es ≤ n
    → Short (section name line es) (31 + 96 * n)
section_short name line es n h w k = then (heading_short name (length es) h) (each_short line 96 w es n k)

pub prefixes_short : (ps : List Prefix) → length ps ≤ 4 → length (prefixes_text ps) ≤ section_most 4
unfolding prefixes_text
prefixes_short ps h = (section_short prefixes_word prefix_line ps 4 (omega arith) prefix_short h).is

pub routers_short : (rs : List Router) → length rs ≤ 2 → length (routers_text rs) ≤ section_most 2
unfolding routers_text
routers_short rs h = (section_short routers_word router_line rs 2 (omega arith) router_short h).is

pub addresses_short : (es : List IfaceAddr) → length es ≤ 8 → length (addresses_text es) ≤ section_most 8
unfolding addresses_text
addresses_short es h = (section_short addresses_word addr_line es 8 (omega arith) addr_short h).is

pub routes_short : (es : List Route) → length es ≤ 8 → length (routes_text es) ≤ section_most 8
unfolding routes_text
routes_short es h = (section_short routes_word route_line es 8 (omega arith) route_short h).is

pub neighbors_short : (es : List Entry) → length es ≤ 16 → length (neighbors_text es) ≤ section_most 16
unfolding neighbors_text
neighbors_short es h = (section_short neighbors_word neighbor_line es 16 (omega arith) neighbor_short h).is

-- the whole state, of sections that are as short
pub state_short : (ps : List Prefix) (rs : List Router) (es : List IfaceAddr) (os : List Route) (ns : List Entry) → length (prefixes_text ps) ≤ section_most 4
    → length (routers_text rs) ≤ section_most 2 → length (addresses_text es) ≤ section_most 8 → length (routes_text os) ≤ section_most 8 → length (neighbors_text ns) ≤ section_most 16
    → length (state_text ps rs es os ns) ≤ state_most
unfolding state_text
state_short ps rs es os ns hp hr he ho hn =
    let s : Short (state_text ps rs es os ns) 3803 =
    then {m = 2236} {n = 1567}
    (then {m = 1437} {n = 799} (then {m = 638} {n = 799} (then {a = prefixes_text ps} {b = routers_text rs} {m = 415} {n = 223} (record { is = hp }) (record { is = hr })) (record { is = he })) (record { is = ho }))
    (record { is = hn }) in
    let n = s.is in
    omega arith
