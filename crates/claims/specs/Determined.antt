-- Document 01: "Each public function's promise .. determines its result and each table, clock and buffer afterwards, on refusals as well. No second
-- answer satisfies it": that there is a first the function itself shows. A field for each promise that is a record, by the function that makes it; one
-- that is an equation for the answer, and one for each thing lent, needs none. Exceptions are what an operating system answers: `next_line`, `emit`
-- and `done` of streams, and `run` of runner (docs/PROMISES.md, "Exceptions"). Assumes nothing.
use Rattle.std.specs.Prelude.{ℕ, ◌≡◌, Bool, List, [], ◌∷◌, Option, Some, None, MatchOption, IfSome}
use Rattle.std.specs.Borrow.{Bor}
use Rattle.time.specs.declared.Instant.{Instant}
use Rattle.time.specs.declared.Clock.{Clock}
use Rattle.table.specs.Calls.{Decides, Finds, Keeps}
use Rattle.wire.specs.declared.ethernet.HardwareAddress.{HardwareAddress}
use Rattle.wire.specs.declared.ipv6.Ipv6Addr.{Ipv6Addr}
use Rattle.wire.specs.declared.ipv6.Ipv6Cidr.{Ipv6Cidr}
use Rattle.wire.specs.Refusals.{Row, Tested}
use Rattle.wire.specs.Rfc2464.{Forms}
use Rattle.ndisc.specs.OptionCalls.{Checks, HandsBack, Wrote}
use Rattle.ndisc.specs.OptionWalk.{Walks, Steps}
use Rattle.ndisc.specs.Rfc4861Messages.{Adverts, Solicits}
use Rattle.neighbor.specs.declared.NeighborCache.{NeighborCache}
use Rattle.neighbor.specs.CacheCalls.{LookedUp, StartTo, InsertTo, FillTo, ClearTo, GotBy, ListedAt, RemovedTo}
use Rattle.sweep.specs.SweepCalls.{SweptTo}
use Rattle.pending.specs.declared.PendingQueue.{PendingQueue}
use Rattle.pending.specs.QueueCalls.{PushedTo, ReleasedTo, OrphansPurged, PurgedTo, WaitingAt}
use Rattle.iface.specs.declared.addr.IfaceAddrs.{IfaceAddrs}
use Rattle.iface.specs.declared.route.Routes.{Routes}
use Rattle.iface.specs.AddressRules.{AddedTo, LocalOf, AddrListed}
use Rattle.iface.specs.RouteRules.{AddedRouteTo, RouteListed}
use Rattle.slaac.specs.declared.Slaac.{Slaac}
use Rattle.slaac.specs.LearnedRules.{PrefixListed, RouterListed}
use Rattle.slaac.specs.DiscoveryRules.{RestartedTo, TurnedOnTo}
use Rattle.autoconf.specs.AdvertRules.{AdvertisedTo}
use Rattle.autoconf.specs.PollRules.{PolledTo}
use Rattle.autoconf.specs.OffRules.{TurnedOffTo}
use Rattle.autoconf.specs.declared.Polled.{Polled}
use Rattle.lent.specs.LentRules.{ReportedTo, PolledBy}
use Rattle.text.specs.Addresses.{MessageRead}
use Rattle.text.specs.Fields.{Found, fields, Parted, PartsAt}
use Rattle.text.specs.Place.{Put}
use Rattle.text.specs.declared.print.Text.{Text}
use Rattle.lines.specs.EventLines.{ParsedTo}
use Rattle.report.specs.AnswerLines.{Printed}
use Rattle.mainloop.specs.declared.Card.{Card as LoopCard}
use Rattle.mainloop.specs.declared.Inbox.{Inbox}
use Rattle.mainloop.specs.declared.Woken.{Woken}
use Rattle.mainloop.specs.LoopRules.{SettledTo, TurnedTo, RanTo}
use Rattle.script.specs.declared.card.After.{After}
use Rattle.script.specs.declared.card.Card.{Card}
use Rattle.script.specs.declared.reading.Want.{Want}
use Rattle.script.specs.CardRules.{Listed}
use Rattle.script.specs.ReadingRules.{SaidTo}
use Rattle.script.specs.StepRules.{StepTo}

-- a promise about an answer, which one answer alone keeps
abbrev pub OneAnswer : {A : Type 0} → (A → Type 0) → Type 0
OneAnswer {A} Promised = (r r' : A) → Promised r → Promised r' → r ≡ r'

-- a promise about an answer and what is left where something was lent: one answer, and one value left
abbrev pub OneAnswerLeaving : {A B : Type 0} → (A → B → Type 0) → Type 0
OneAnswerLeaving {A} {B} Promised = (r r' : A) (left left' : B) → Promised r left → Promised r' left' → (r ≡ r') × (left ≡ left')

-- the same part: its bytes and where it begins, all that a program can read of it
abbrev pub SamePart : Bor (List ℕ) → Bor (List ℕ) → Type 0
SamePart p q = (p.now ≡ q.now) × (p.ref_ptr ≡ q.ref_ptr)

-- the same two parts of a line, or none
abbrev pub SameParts : Option (Bor (List ℕ) × Bor (List ℕ)) → Option (Bor (List ℕ) × Bor (List ℕ)) → Type 0
SameParts None None = Unit {0}
SameParts (Some p) (Some q) = SamePart p.0 q.0 × SamePart p.1 q.1
SameParts None (Some q) = ⊥
SameParts (Some p) None = ⊥

-- what `split` promises of a line
abbrev pub Splits : Bor (List ℕ) → Option (Bor (List ℕ) × Bor (List ℕ)) → Type 0
Splits line r =
    MatchOption r (fields line.now ≡ line.now ∷ []) (λ p. Parted line.now p.0.now p.1.now)
    × IfSome r (λ p. PartsAt line p.0 p.1)

pub record Determined : Type 1 where
  -- table, of a closure whose answers are those of a test; of one that answers now so and now otherwise nothing is promised
  pub position : {A : Type 0} (gives : A → Bool → Type 0) (test : A → Bool) → Decides gives test → (xs : List A) → OneAnswer (Finds gives xs)
  pub retain : {A : Type 0} (gives : A → Bool → Type 0) (test : A → Bool) → Decides gives test → (n : ℕ) (slots : List A)
      → OneAnswerLeaving (Keeps gives n slots)
  -- wire: the checks, and the address that a prefix forms
  pub check : (rows : List Row) → OneAnswer (Tested rows)
  pub from_link_prefix : (hw : HardwareAddress) (c : Ipv6Cidr) → OneAnswer (Forms hw c)
  -- ndisc: messages and options; what is written leaves the message
  pub router_advert : (msg : List ℕ) → OneAnswer (Adverts msg)
  pub write_solicit : (buf : List ℕ) (src : Ipv6Addr) (hw : HardwareAddress) → OneAnswerLeaving (Solicits buf src hw)
  pub check_option : (option : List ℕ) → OneAnswer (Checks option)
  pub check_options : (msg : List ℕ) (from : ℕ) → OneAnswer (Walks msg from)
  pub next_option : (msg : List ℕ) (at : ℕ) → OneAnswer (Steps msg at)
  pub write : (msg : List ℕ) (at : ℕ) (bs : List ℕ) → OneAnswerLeaving (Wrote msg at bs)
  -- of a part that is handed back, its bytes and where it begins: all that a program can read of it
  pub «data» : (option r r' : Bor (List ℕ)) → HandsBack option r → HandsBack option r' → (r.now ≡ r'.now) × (r.ref_ptr ≡ r'.ref_ptr)
  -- neighbor
  pub lookup : (c : NeighborCache) (iface : ℕ) (addr : Ipv6Addr) → OneAnswer (LookedUp c iface addr)
  pub start_resolution : (c : NeighborCache) (iface : ℕ) (addr : Ipv6Addr) → OneAnswer (StartTo c iface addr)
  pub fill : (c : NeighborCache) (iface : ℕ) (addr : Ipv6Addr) (hw : HardwareAddress) (now : Instant) → OneAnswer (FillTo c iface addr hw now)
  pub insert : (c : NeighborCache) (iface : ℕ) (addr : Ipv6Addr) (hw : HardwareAddress) (expires : Instant) → OneAnswer (InsertTo c iface addr hw expires)
  pub get : (c : NeighborCache) (iface : ℕ) (addr : Ipv6Addr) → OneAnswer (GotBy c iface addr)
  pub neighbour_at : (c : NeighborCache) (index : ℕ) → OneAnswer (ListedAt c index)
  pub remove : (c : NeighborCache) (iface : ℕ) (addr : Ipv6Addr) → OneAnswer (RemovedTo c iface addr)
  pub clear_iface : (c : NeighborCache) (iface : ℕ) → OneAnswer (ClearTo c iface)
  -- sweep, with the clock by value and, of lent, with the clock lent
  pub sweep_at : (c : NeighborCache) (k : Clock) (iface : ℕ) → OneAnswer (SweptTo c k iface)
  pub sweep : (c : NeighborCache) (k : Clock) (iface : ℕ) → OneAnswerLeaving (ReportedTo c k iface)
  -- pending
  pub push : (q : PendingQueue) (iface : ℕ) (addr : Ipv6Addr) (handle : ℕ) → OneAnswer (PushedTo q iface addr handle)
  pub release : (q : PendingQueue) (iface : ℕ) (addr : Ipv6Addr) → OneAnswer (ReleasedTo q iface addr)
  pub purge_orphans : (q : PendingQueue) (c : NeighborCache) → OneAnswer (OrphansPurged q c)
  pub purge_iface : (q : PendingQueue) (iface : ℕ) → OneAnswer (PurgedTo q iface)
  pub packet_at : (q : PendingQueue) (index : ℕ) → OneAnswer (WaitingAt q index)
  -- iface
  pub add_ip_addr : (t : IfaceAddrs) (iface : ℕ) (c : Ipv6Cidr) → OneAnswer (AddedTo t iface c)
  pub link_local : (t : IfaceAddrs) → OneAnswer (LocalOf t)
  pub address_at : (t : IfaceAddrs) (index : ℕ) → OneAnswer (AddrListed t index)
  pub add_route : (t : Routes) (iface : ℕ) (c : Ipv6Cidr) (via : Ipv6Addr) → OneAnswer (AddedRouteTo t iface c via)
  pub route_at : (t : Routes) (index : ℕ) → OneAnswer (RouteListed t index)
  -- slaac
  pub restart : (s : Slaac) (iface : ℕ) → OneAnswer (RestartedTo s iface)
  pub turn_on : (s : Slaac) (iface : ℕ) → OneAnswer (TurnedOnTo s iface)
  pub prefix_at : (s : Slaac) (index : ℕ) → OneAnswer (PrefixListed s index)
  pub router_at : (s : Slaac) (index : ℕ) → OneAnswer (RouterListed s index)
  -- autoconf; the poll leaves its buffer and, of lent, its clock
  pub advertisement : (s : Slaac) (c : NeighborCache) (iface : ℕ) (source : Ipv6Addr) (msg : List ℕ) (now : Instant)
      → OneAnswer (AdvertisedTo s c iface source msg now)
  pub poll_at : (s : Slaac) (t : IfaceAddrs) (r : Routes) (iface : ℕ) (up : Bool) (hw : HardwareAddress) (buf : List ℕ) (k : Clock)
      → OneAnswerLeaving (PolledTo s t r iface up hw buf k)
  pub poll : (s : Slaac) (t : IfaceAddrs) (r : Routes) (iface : ℕ) (up : Bool) (hw : HardwareAddress) (buf : List ℕ) (k : Clock)
      (p p' : Polled) (buf' buf'' : List ℕ) (k' k'' : Clock) → PolledBy s t r iface up hw buf k p buf' k' → PolledBy s t r iface up hw buf k p' buf'' k''
      → (p ≡ p') × (buf' ≡ buf'') × (k' ≡ k'')
  pub turn_off : (s : Slaac) (t : IfaceAddrs) (r : Routes) (c : NeighborCache) (q : PendingQueue) (iface : ℕ) → OneAnswer (TurnedOffTo s t r c q iface)
  -- mainloop; each leaves its buffer
  pub settle : (card : LoopCard) (up : Bool) (hw : HardwareAddress) (buf : List ℕ) (now : Instant) → OneAnswerLeaving (SettledTo card up hw buf now)
  pub turn : (card : LoopCard) (woken : Woken) (received : List ℕ) (hw : HardwareAddress) (buf : List ℕ)
      → OneAnswerLeaving (TurnedTo card woken received hw buf)
  pub run : (card : LoopCard) (wake : Option Instant) (inbox : Inbox) (received : List ℕ) (hw : HardwareAddress) (buf : List ℕ) (budget : ℕ)
      → OneAnswerLeaving (RanTo card wake inbox received hw buf budget)
  -- text: a message read into its buffer, the first byte of a kind, a line's two parts, a text put at a place of a buffer
  pub read_message : (field out : List ℕ) → OneAnswerLeaving (MessageRead field out)
  pub find : (bytes : List ℕ) (wanted : ℕ) → OneAnswer (Found bytes wanted)
  pub split : (line : Bor (List ℕ)) (r r' : Option (Bor (List ℕ) × Bor (List ℕ))) → Splits line r → Splits line r' → SameParts r r'
  pub print : (out : List ℕ) (at : ℕ) (text : List ℕ) → OneAnswerLeaving (Put out at text)
  -- the event program: an event read, a listing printed, a line taken, the state printed
  pub parse_event : (line message : List ℕ) → OneAnswerLeaving (ParsedTo line message)
  pub listing : (text : List ℕ) (most : ℕ) (out : List ℕ) (at : ℕ) → OneAnswerLeaving (Printed text most out at)
  pub read_line : (message : List ℕ) (want : Want) (line : List ℕ) → OneAnswerLeaving (SaidTo message want line)
  -- two texts of the same bytes and place are left with the same; that each keeps the buffer that it holds, a clause of `Card::step` says by itself
  pub step : (want : Want) (card : Card) (line : List ℕ) (out out' : Text) → out.buf.now ≡ out'.buf.now → out.at ≡ out'.at
      → (r r' : After) (left left' : Text) → StepTo want card line out r left → StepTo want card line out' r' left'
      → (r ≡ r') × (left.buf.now ≡ left'.buf.now) × (left.at ≡ left'.at)
  pub list : (card : Card) (out : List ℕ) (at : ℕ) → OneAnswerLeaving (Listed card out at)
