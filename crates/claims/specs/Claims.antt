-- What this project promises beyond the single calls: every claim by name. `proofs/Claims.antt` proves them all; `docs/READING.md` says how to read
-- them, and what each leaves open. Assumes nothing.
use Rattle.claims.specs.Places.{Places}
use Rattle.claims.specs.Looks.{Looks}
use Rattle.claims.specs.Packets.{Packets}
use Rattle.claims.specs.Counts.{Counts}
use Rattle.claims.specs.EitherOrder.{EitherOrder}
use Rattle.claims.specs.Demand3.{Demand3}
use Rattle.claims.specs.Traces.{Traces}
use Rattle.claims.specs.Caches.{OnCaches}
use Rattle.claims.specs.Clocks.{Clocks}
use Rattle.claims.specs.Wake.{Wake}
use Rattle.claims.specs.WakePoll.{WakePoll}
use Rattle.claims.specs.MainLoop.{MainLoop}
use Rattle.claims.specs.SameSource.{SameSource}
use Rattle.claims.specs.Early.{NotEarly}
use Rattle.claims.specs.Examples.{Examples}
use Rattle.claims.specs.Application.{NeverGoes}
use Rattle.claims.specs.Arrives.{Arrives}
use Rattle.claims.specs.RoutesArrive.{RoutesArrive}
use Rattle.claims.specs.Cleared.{Cleared}
use Rattle.claims.specs.Housed.{Housed}
use Rattle.claims.specs.Lasting.{Lasting}
use Rattle.claims.specs.Preferred.{NotDeprecated}
use Rattle.claims.specs.Endless.{Endless}
use Rattle.claims.specs.RoundTrips.{RoundTrips}
use Rattle.claims.specs.Order.{Order}
use Rattle.claims.specs.Refusals.{Refusals}
use Rattle.claims.specs.Determined.{Determined}
use Rattle.claims.specs.Pinned.{Pinned}
use Rattle.time.specs.Forward.{ForwardLaw}
use Rattle.neighbor.specs.Distinct.{KeysOnce}
use Rattle.pending.specs.QueueCount.{Accounted}
use Rattle.autoconf.specs.Distinct.{AddressesOnce}

pub record Claims : Type 1 where
  -- Neighbours
  --
  -- Traffic for other addresses cannot hold a resolution back, short of evicting it: demand 3, sentence by sentence, over any calls.
  pub demand3 : Demand3
  -- Its premises can be met: there are runs in which a key is kept, fails, is filled, is removed and is evicted.
  pub traces : Traces
  -- What is said there of lists of entries holds of the caches that the code's calls make, and no cache holds a key twice.
  pub on_caches : OnCaches
  -- So after each of `neighbor`'s own calls.
  pub keys_once : KeysOnce
  -- The scans of the cache and the queue find the places that document 01 names.
  pub places : Places
  -- A sweep looks at each neighbour once, and says how many it looked at: as many as there are.
  pub looks : Looks
  -- Packets
  --
  -- Each packet that is pushed waits or leaves exactly once, for a reason, and a resolution under way keeps its packets.
  pub packets : Packets
  -- No call of the queue loses a handle or makes one up.
  pub accounted : Accounted
  -- And so over any calls, SLAAC turned off among them: the pushes of a handle, refused ones aside, are the times it was released, dropped as oldest, purged
  -- as orphan and purged with its interface, and the times it still waits, together.
  pub counts : Counts
  -- Clearing two interfaces in either order leaves the same cache and queue, and turning SLAAC off on them the same routes besides; no call tells them apart.
  -- Clearing twice, or purging orphans twice against one cache, is once; and what stays keeps its order.
  pub either_order : EitherOrder
  -- The clock, and sleeping
  --
  -- Asking and scheduling bring a clock's deadline forward or leave it, and what was asked of and has not come is waited for.
  pub forward : ForwardLaw
  -- Sweeps and polls bring the clock's deadline forward or leave it, and leave now alone; what they found and is still to come is waited for.
  pub clocks : Clocks
  -- A card that sweeps every interface with neighbours, and one of them once more, may sleep until the clock's deadline: exactly then something
  -- is due. And what becomes of one that sweeps only once.
  pub wake : Wake
  -- One poll is enough: every poll before its deadline is quiet and leaves everything.
  pub wake_poll : WakePoll
  -- As long as the source to send from is the same; and only the application's first link-local address or the link changes it.
  pub same_source : SameSource
  -- The main loop of `mainloop` does so: its card sleeps as long as it may and misses nothing, and no turn loses a packet.
  pub main_loop : MainLoop
  -- Addresses and routes
  --
  -- No address and no default route leaves the table before its time.
  pub not_early : NotEarly
  -- That time is met to the millisecond: the state of document 01's event file, polled before it and at it.
  pub lasting : Lasting
  -- Or there is none: a prefix of all ones keeps its address at the last poll that there can be, and nobody waits for its end.
  pub endless : Endless
  -- No address is deprecated before its time.
  pub not_deprecated : NotDeprecated
  -- A prefix that is taught brings its address at the next poll, if there is room; a poll after the end of all that form it takes it; and a SLAAC
  -- address has a prefix that forms it.
  pub arrives : Arrives
  -- Likewise a router and its default route.
  pub routes_arrive : RoutesArrive
  -- Bits past a prefix length are not learned, and so no two prefixes of the table form one address.
  pub cleared : Cleared
  -- After a poll that is taken, a prefix that forms an address has it, or the address table is full.
  pub housed : Housed
  -- What the application added stays, whatever is called: no sync and no turning off of SLAAC takes it.
  pub never_goes : NeverGoes
  -- No address stands twice in the tables that the calls make, and so the sync's entry of an address is document 01's SLAAC entry.
  pub addresses_once : AddressesOnce
  -- Answers
  --
  -- Every call tests in the order of document 01's table, so that of several reasons to refuse it answers the topmost.
  pub order : Order
  -- Each call of the library that can refuse does so exactly if a row of that table fails, with the first such row's number, and then everything is
  -- as it came.
  pub refusals : Refusals
  -- No promise of a function that can be called has a second answer, nor leaves a second clock or buffer; but for what an operating system answers,
  -- and a search or filter by a closure that decides no test.
  pub determined : Determined
  -- What is written or printed reads back as it was, a prefix without the bits past its length, and nothing beside it changes.
  pub round_trips : RoundTrips
  -- Values
  --
  -- Document 01's worked examples, the last as request 2026-02 has it.
  pub examples : Examples
  -- And its numbers and bits, each in a computed value.
  pub pinned : Pinned
