-- Laws of carrying an event out: what the calls' contracts say, put together. Assumes nothing.
use Prim.Native.Nat.{ℕ, ◌≤◌}
use lib.ListN.{length}
use mathlib.Core.List.{List, []}
use mathlib.Core.Path.{◌≡◌, ap, ap₂}
use native.Mathlib.Omega.{arith}
use Rattle.iface.specs.AddressRules.{addrs_of}
use Rattle.iface.specs.RouteRules.{routes_of}
use Rattle.slaac.specs.LearnedRules.{prefixes_of, routers_of}
use Rattle.lines.specs.EventLines.{ReadyEvent}
use Rattle.lines.specs.declared.event.Event.TheVariants.{Remove}
use Rattle.lines.specs.declared.event.Event.{Event}
use Rattle.neighbor.specs.CacheCalls.{entries, StartTo, FillTo, RemovedTo}
use Rattle.neighbor.specs.declared.Changed.{Changed}
use Rattle.neighbor.specs.declared.NeighborCache.{NeighborCache}
use Rattle.neighbor.specs.declared.Removed.{Removed}
use Rattle.pending.specs.QueueCalls.{empty as noPackets}
use Rattle.pending.specs.declared.PendingQueue.{PendingQueue}
use Rattle.report.proofs.Lengths.{Short, state_short}
use Rattle.report.specs.AnswerLines.{Printed, Prints, event_most}
use Rattle.report.specs.StateLines.{prefixes_text, routers_text, addresses_text, routes_text, neighbors_text, state_text, section_most}
use Rattle.script.proofs.PrintedLaws.{poll_short, ra_short, change_short}
use Rattle.script.specs.PrintedRules.{poll_text, ra_text, change_text, sweep_text}
use Rattle.script.specs.CardRules.{DidCache, CachedTo, start_cache, fill_cache, sweep_cache, remove_cache, Did, did, with_cache, instant, polled_card, sixteen, poll_card, heard_card, ra_card, left_card, off_card, carry_out, message_for, CarriedTo, listed_text, Listed}
use Rattle.script.specs.declared.card.Card.{Card}
use Rattle.autoconf.specs.OffRules.{TurnedOffTo}
use Rattle.autoconf.specs.PollRules.{PolledTo}
use Rattle.autoconf.specs.AdvertRules.{AdvertisedTo}
use Rattle.autoconf.specs.declared.Advertised.{Advertised}
use Rattle.autoconf.specs.declared.PolledAt.{PolledAt}
use Rattle.autoconf.specs.declared.TurnedOff.{TurnedOff}
use Rattle.sweep.specs.SweepCalls.{SweptTo}
use Rattle.sweep.specs.declared.Swept.{Swept}
use Rattle.text.proofs.PlaceLaws.{put_as, put_none, chain}
use Rattle.text.specs.Gathered.{Adds}
use Rattle.text.specs.declared.print.Text.{Text}
use Rattle.time.specs.ClockRules.{idle}
use Rattle.time.specs.declared.Clock.{Clock}
use Rattle.wire.specs.declared.ethernet.HardwareAddress.{HardwareAddress}
use Rattle.wire.specs.declared.ipv6.Ipv6Addr.{Ipv6Addr}

-- ---- the neighbours

cached : (d : DidCache) {c : NeighborCache} {text : List ℕ} {out out' : Text} → c ≡ d.cache → text ≡ d.text → Adds out text out' → Short text event_most
    → CachedTo d out c out'
cached d p q w s = record { cache = p; put = put_as q w; short = rw (← q) s.is }

pub start_done : (c : NeighborCache) (t : ℕ) (a : Ipv6Addr) (p : Changed) {out out' : Text} → StartTo c 0 a p → Adds out (change_text t p.outcome) out'
    → CachedTo (start_cache c t a) out p.cache out'
unfolding start_cache
start_done c t a p w v =
    cached (start_cache c t a) (ap (λ (q : Changed). q.cache) w.is) (ap (λ (q : Changed). change_text t q.outcome) w.is) v (change_short t p.outcome)

pub fill_done : (c : NeighborCache) (t : ℕ) (a : Ipv6Addr) (h : HardwareAddress) (p : Changed) {out out' : Text} → FillTo c 0 a h (instant t) p
    → Adds out (change_text t p.outcome) out' → CachedTo (fill_cache c t a h) out p.cache out'
unfolding fill_cache
fill_done c t a h p w v =
    cached (fill_cache c t a h) (ap (λ (q : Changed). q.cache) w.is) (ap (λ (q : Changed). change_text t q.outcome) w.is) v (change_short t p.outcome)

pub sweep_done : (c : NeighborCache) (t : ℕ) (k : Clock) (p : Swept) {out out' : Text} → k ≡ idle (instant t) → SweptTo c k 0 p
    → Prints (sweep_text t p.outcome p.events) event_most out out' → CachedTo (sweep_cache c t) out p.cache out'
unfolding sweep_cache
sweep_done c t k p e w v =
    let s : SweptTo c (idle (instant t)) 0 p = rw e at w in
    cached (sweep_cache c t) (ap (λ (q : Swept). q.cache) s.is) (ap (λ (q : Swept). sweep_text t q.outcome q.events) s.is) v.put
    (record { is = v.short })

pub remove_done : (c : NeighborCache) (a : Ipv6Addr) (p : Removed) → RemovedTo c 0 a p → p.cache ≡ remove_cache c a
unfolding remove_cache
remove_done c a p w = ap (λ (q : Removed). q.cache) w.is

-- ---- the state

pub off_card_lem : (x : Card) (q : PendingQueue) (p : TurnedOff) → q ≡ noPackets → TurnedOffTo x.slaac x.addrs x.routes x.cache q 0 p → left_card x p ≡ off_card x
unfolding off_card
off_card_lem x q p e w =
    let v : TurnedOffTo x.slaac x.addrs x.routes x.cache noPackets 0 p = rw e at w in
    ap (left_card x) v.is

carried : (d : Did) {x : Card} {text : List ℕ} {out out' : Text} → x ≡ d.card → text ≡ d.text → Adds out text out' → Short text event_most
    → CarriedTo d out x out'
carried d p q w s = record { card = p; put = put_as q w; short = rw (← q) s.is }

pub poll_done : (x : Card) (t : ℕ) (k : Clock) (p : PolledAt) (buf : List ℕ) {out out' : Text} → k ≡ idle (instant t)
    → PolledTo x.slaac x.addrs x.routes 0 x.up x.hardware_addr sixteen k p buf → length buf ≤ 16
    → Adds out (poll_text t p.polled.answer buf) out' → CarriedTo (poll_card x t) out (polled_card x p.polled) out'
unfolding poll_card
poll_done x t k p buf e w h v =
    let s : PolledTo x.slaac x.addrs x.routes 0 x.up x.hardware_addr sixteen (idle (instant t)) p buf = rw e at w in
    carried (poll_card x t) (ap (λ (q : PolledAt). polled_card x q.polled) s.is)
    (ap₂ (λ (y : PolledAt) (b : List ℕ). poll_text t y.polled.answer b) s.is s.leaves) v (poll_short t p.polled.answer buf h)

pub ra_done : (x : Card) (t : ℕ) (source : Ipv6Addr) (message : List ℕ) (p : Advertised) {out out' : Text}
    → AdvertisedTo x.slaac x.cache 0 source message (instant t) p → Adds out (ra_text t p.answer) out'
    → CarriedTo (ra_card x t source message) out (heard_card x p) out'
unfolding ra_card
ra_done x t source message p w v =
    carried (ra_card x t source message) (ap (heard_card x) w.is) (ap (λ (y : Advertised). ra_text t y.answer) w.is) v (ra_short t p.answer)

-- ---- an event

module _ (x : Card) (t : ℕ) (v : Event) (message : List ℕ) where
  -- one that prints nothing
  pub quiet : (e : Event) (y z : Card) {out : Text} → v ≡ e → y ≡ z → carry_out x t e (message_for e message) ≡ did z []
      → CarriedTo (carry_out x t v (message_for v message)) out y out
  quiet e y z {out} p q g = rw (p, g) (record { card = q; put = put_none out.buf.now out.at; short = omega arith })

  pub at_remove : (a : Ipv6Addr) {out : Text} {c : NeighborCache} → v ≡ Remove a → c ≡ remove_cache x.cache a
      → CarriedTo (carry_out x t v (message_for v message)) out (with_cache x c) out
  at_remove a {out} p w = rw p (record { card = ap (with_cache x) w; put = put_none out.buf.now out.at; short = omega arith })

-- the message that was read is the one that is carried out
pub heard : (x : Card) (t : ℕ) (e : Event) (message bs : List ℕ) → ReadyEvent message bs e → carry_out x t e (message_for e message) ≡ carry_out x t e bs
heard x t e message bs w = ap (carry_out x t e) w.1

-- ---- the listing

pub listed : (x : Card) {out out₁ out₂ out₃ out₄ out₅ : List ℕ} {at a b c d r : ℕ} → Printed (prefixes_text (prefixes_of x.slaac)) (section_most 4) out at a out₁
    → Printed (routers_text (routers_of x.slaac)) (section_most 2) out₁ a b out₂ → Printed (addresses_text (addrs_of x.addrs)) (section_most 8) out₂ b c out₃
    → Printed (routes_text (routes_of x.routes)) (section_most 8) out₃ c d out₄ → Printed (neighbors_text (entries x.cache)) (section_most 16) out₄ d r out₅ → Listed x out at r out₅
unfolding listed_text state_text
listed x p q s t u =
    record {
      put = chain (chain (chain (chain p.put q.put) s.put) t.put) u.put;
      short =
          state_short (prefixes_of x.slaac) (routers_of x.slaac) (addrs_of x.addrs) (routes_of x.routes) (entries x.cache)
          p.short q.short s.short t.short u.short;
    }
