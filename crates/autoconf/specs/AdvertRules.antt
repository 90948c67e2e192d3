-- Document 01, "Advertisement": its five steps. Assumes nothing.
use Rattle.std.specs.Prelude.{ℕ, ◌-◌, ◌≡◌, cond, not, List, [], ◌∷◌, length, drop, Result, Ok, Err, Option, Some, None}
use Rattle.table.specs.Table.{fold_over}
use Rattle.time.specs.declared.Instant.{Instant}
use Rattle.time.specs.TimeRules.{seconds_of}
use Rattle.wire.specs.declared.ethernet.HardwareAddress.{HardwareAddress}
use Rattle.wire.specs.declared.ipv6.Ipv6Addr.{Ipv6Addr}
use Rattle.wire.specs.declared.error.Refusal.{Refusal}
use Rattle.wire.specs.declared.error.Refusal.TheVariants.{NotLinkLocal}
use Rattle.wire.specs.Refusals.{Row, first_refusal, check_number, decided, time_check}
use Rattle.wire.specs.Rfc2464.{is_unicast_hardware}
use Rattle.wire.specs.Rfc4291.{is_link_local}
use Rattle.ndisc.specs.declared.ndiscoption.NdiscOption.{NdiscOption}
use Rattle.ndisc.specs.declared.ndiscoption.NdiscOption.TheVariants.{SourceLinkLayerAddr, TargetLinkLayerAddr, PrefixInformation as Prefix, RedirectedHeader, Mtu, Unknown}
use Rattle.ndisc.specs.declared.ndiscoption.PrefixInformation.{PrefixInformation}
use Rattle.ndisc.specs.declared.ndisc.RouterAdvert.{RouterAdvert}
use Rattle.ndisc.specs.Answers.{advert_number as headerNumber, advert_headers}
use Rattle.ndisc.specs.OptionWalk.{options_of, malformed_option}
use Rattle.ndisc.specs.Rfc4861Messages.{not_advertisement, router_advert_at, advert_by}
use Rattle.neighbor.specs.declared.NeighborCache.{NeighborCache}
use Rattle.neighbor.specs.NeighborRules.{lasting}
use Rattle.neighbor.specs.CacheCalls.{key, put_in, unless}
use Rattle.slaac.specs.declared.Slaac.{Slaac}
use Rattle.slaac.specs.LearnedRules.{process_prefix_is, process_router_is, store_flags_is}
use Rattle.autoconf.specs.declared.Taught.{Taught}
use Rattle.autoconf.specs.declared.AdvertAnswer.{AdvertAnswer}
use Rattle.autoconf.specs.declared.AdvertAnswer.TheVariants.{Off, Done}
use Rattle.autoconf.specs.declared.Advertised.{Advertised}
use Rattle.autoconf.specs.Answers.{advert_number, number_around, lladdr_number, lladdr_given}

-- 6: "advertisement source not link-local"
abbrev pub not_link_local : Ipv6Addr → Row
not_link_local a = record { refusal = NotLinkLocal; fails = not (is_link_local a) }

-- 5, 6 and 1, where step 1 is the last: "Every option is checked before anything changes, and the walk is left at the first malformed one."
abbrev pub message_rows : Ipv6Addr → List ℕ → List Row
message_rows source msg = not_advertisement msg ∷ not_link_local source ∷ malformed_option msg 16 ∷ []

abbrev pub message_check : Ipv6Addr → List ℕ → Result (Unit {0}) Refusal
message_check source msg = first_refusal (message_rows source msg)

-- the header of a message that passes
pub record CheckedTo (source : Ipv6Addr) (msg : List ℕ) (r : Result RouterAdvert Refusal) : Type 0 where
  pub is : r ≡ advert_by (message_check source msg) msg
  pub number : headerNumber r ≡ check_number (message_check source msg)
  pub header : advert_headers r ≡ unless (message_check source msg) (router_advert_at msg ∷ [])

-- "options from byte 16"
abbrev pub options_in : List ℕ → List NdiscOption
options_in msg = options_of msg 16

-- Step 2: "Prefix options in order."

abbrev pub prefix_options : List NdiscOption → List PrefixInformation
prefix_options [] = []
prefix_options (Prefix p ∷ os) = p ∷ prefix_options os
prefix_options (SourceLinkLayerAddr h ∷ os) = prefix_options os
prefix_options (TargetLinkLayerAddr h ∷ os) = prefix_options os
prefix_options (RedirectedHeader ∷ os) = prefix_options os
prefix_options (Mtu n ∷ os) = prefix_options os
prefix_options (Unknown n ∷ os) = prefix_options os

unfoldable pub step2 : Instant → Slaac → List NdiscOption → Slaac
step2 now s os = fold_over (process_prefix_is now) s (prefix_options os)

-- Step 3: the source is a router for the lifetime of the header

abbrev pub step3 : Instant → Slaac → Ipv6Addr → RouterAdvert → Slaac
step3 now s source h = process_router_is now s source (seconds_of h.router_lifetime)

-- Step 4: "Flags are stored"

abbrev pub step4 : Slaac → RouterAdvert → Slaac
step4 s h = store_flags_is s h.managed h.other_config

-- Step 5: "If a type 1 option occurred, the last one counts"

abbrev pub source_options : List NdiscOption → List HardwareAddress
source_options [] = []
source_options (SourceLinkLayerAddr h ∷ os) = h ∷ source_options os
source_options (TargetLinkLayerAddr h ∷ os) = source_options os
source_options (Prefix p ∷ os) = source_options os
source_options (RedirectedHeader ∷ os) = source_options os
source_options (Mtu n ∷ os) = source_options os
source_options (Unknown n ∷ os) = source_options os

abbrev pub last_in : Option HardwareAddress → List HardwareAddress → Option HardwareAddress
last_in l [] = l
last_in l (h ∷ hs) = last_in (Some h) hs

unfoldable pub last_source : List NdiscOption → Option HardwareAddress
last_source os = last_in None (source_options os)

-- what the options teach, for both steps
abbrev pub taught_by : Instant → Slaac → List NdiscOption → Taught
taught_by now s os = record { slaac = step2 now s os; lladdr = last_source os }

abbrev pub last_alone : List HardwareAddress → List HardwareAddress
last_alone hs = drop (length hs - 1) hs

pub record TaughtTo (now : Instant) (s : Slaac) (os : List NdiscOption) (r : Taught) : Type 0 where
  pub is : r ≡ taught_by now s os
  pub number : lladdr_number r.lladdr ≡ 0
  pub gives : lladdr_given r.lladdr ≡ last_alone (source_options os)

-- "it fills the neighbour (interface, source)"
abbrev pub filled_by : NeighborCache → ℕ → Ipv6Addr → HardwareAddress → Instant → NeighborCache
filled_by c iface source h now = put_in c (key iface source) (lasting h now)

-- "if unicast"
abbrev pub step5 : NeighborCache → ℕ → Ipv6Addr → Option HardwareAddress → Instant → NeighborCache
step5 c iface source None now = c
step5 c iface source (Some h) now = cond (is_unicast_hardware h) (filled_by c iface source h now) c

-- The call

abbrev pub advertised : Slaac → NeighborCache → Result AdvertAnswer Refusal → Advertised
advertised s c a = record { slaac = s; cache = c; answer = a }

abbrev pub steps2to4 : Slaac → Ipv6Addr → List ℕ → Instant → Slaac
steps2to4 s source msg now =
    step4 (step3 now (step2 now s (options_in msg)) source (router_advert_at msg)) (router_advert_at msg)

abbrev pub not_heard : Slaac → NeighborCache → Refusal → Advertised
not_heard s c why = advertised s c (Err why)

abbrev pub message_by : Result (Unit {0}) Refusal → Slaac → NeighborCache → ℕ → Ipv6Addr → List ℕ → Instant → Advertised
message_by check s c iface source msg now =
    decided check (not_heard s c) (advertised (steps2to4 s source msg now) (step5 c iface source (last_source (options_in msg)) now) (Ok Done))

-- "With SLAAC off this call .. answer Off, after 3 and 7 and before 5, and do nothing."
abbrev pub call_by : Result (Unit {0}) Refusal → Slaac → NeighborCache → ℕ → Ipv6Addr → List ℕ → Instant → Advertised
call_by check s c iface source msg now =
    decided check (not_heard s c) (cond s.on (message_by (message_check source msg) s c iface source msg now) (advertised s c (Ok Off)))

pub record AdvertisedTo (s : Slaac) (c : NeighborCache) (iface : ℕ) (source : Ipv6Addr) (msg : List ℕ) (now : Instant) (r : Advertised) : Type 0 where
  pub is : r ≡ call_by (time_check now iface) s c iface source msg now
  pub number : advert_number r.answer ≡ number_around (time_check now iface) s.on (message_check source msg)
