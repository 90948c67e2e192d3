-- No address deprecated early: a SLAAC address keeps a preferred time of w or later as long as the prefixes that form it do. Assumes nothing.
use Rattle.std.specs.Prelude.{ℕ, ◌≡◌, true, false, List}
use Rattle.table.specs.Table.{first_of}
use Rattle.time.specs.declared.Instant.{Instant}
use Rattle.time.specs.declared.Expiry.{Expiry}
use Rattle.time.specs.declared.Expiry.TheVariants.{At}
use Rattle.wire.specs.declared.ipv6.Ipv6Cidr.{Ipv6Cidr}
use Rattle.wire.specs.declared.ipv6.Formed.TheVariants.{Addr}
use Rattle.wire.specs.declared.ethernet.HardwareAddress.{HardwareAddress}
use Rattle.wire.specs.Rfc2464.{formed_of}
use Rattle.ndisc.specs.declared.ndiscoption.PrefixInformation.{PrefixInformation}
use Rattle.iface.specs.declared.addr.Preferred.{Preferred}
use Rattle.iface.specs.declared.addr.Preferred.TheVariants.{Always, Until, Never}
use Rattle.iface.specs.declared.addr.IfaceAddr.{IfaceAddr}
use Rattle.iface.specs.AddressRules.{addrs_of, is_addr}
use Rattle.slaac.specs.declared.Prefix.{Prefix}
use Rattle.slaac.specs.LearnedRules.{prefixes_of, is_skipped, prefix_of}
use Rattle.autoconf.specs.AdvertRules.{options_in, prefix_options}
use Rattle.claims.specs.Lists.{All}
use Rattle.claims.specs.Traces.{ms}
use Rattle.claims.specs.Early.{Host, HostCall, Run, Before, TakesPoll, Takes, stands, Earlier, Reaches}
use Rattle.claims.specs.Examples.{mac, formed, end}
use Rattle.claims.specs.Lasting.{polled_again}

-- the preferred time of the entry of that address and length
abbrev pub preferred_time : IfaceAddr → Preferred
preferred_time e = e.preferred

abbrev pub preferred_in : Ipv6Cidr → List IfaceAddr → Preferred
preferred_in a es = first_of (is_addr a) preferred_time Never es

-- it is a time, and w or later; `Always` is the application's
abbrev pub PreferredTo : Expiry → Preferred → Type 0
PreferredTo w Always = ⊥
PreferredTo w (Until e) = Reaches w e
PreferredTo w Never = ⊥

-- the entry of that address and length is there, SLAAC's, and preferred until w or longer
pub record StandsPreferred (w : Expiry) (a : Ipv6Cidr) (es : List IfaceAddr) : Type 0 where
  pub there : stands a es ≡ true
  pub time : PreferredTo w (preferred_in a es)

-- if the prefix forms the address, it is valid until w or longer, and preferred
abbrev pub PrefersTo : Expiry → HardwareAddress → Ipv6Cidr → Prefix → Type 0
PrefersTo w hw a p = formed_of hw p.cidr ≡ Addr a → Reaches w p.valid_until × Reaches w p.preferred_until

-- if the option is not skipped, and its prefix forms the address, then it says so too
abbrev pub Renews : Expiry → HardwareAddress → Ipv6Cidr → Instant → PrefixInformation → Type 0
Renews w hw a now o = is_skipped o ≡ false → PrefersTo w hw a (prefix_of o now)

-- a call of interface i: a poll that is taken is before w, and the prefixes of an advertisement that is taken renew the address
abbrev pub Renewing : ℕ → Expiry → HardwareAddress → Ipv6Cidr → HostCall → Type 0
Renewing i w hw a c =
    Before (λ now. TakesPoll i now → Earlier w now)
    (λ source msg now. Takes i source msg now → All (Renews w hw a now) (prefix_options (options_in msg)))
    c

pub record NotDeprecated : Type 0 where
  -- A SLAAC address stands with a preferred time of w or later, and every prefix of the table that forms it is valid and preferred until w or
  -- longer. Whatever advertisements are taken that do not say less of such a prefix, whatever else comes and is refused, whatever the
  -- application adds and however often discovery restarts: short of turning SLAAC off there, before a poll at w or later is taken it stands,
  -- with a preferred time of w or later. Where w is forever, no poll deprecates it.
  pub address : (i : ℕ) (hw : HardwareAddress) (a : Ipv6Cidr) (w : Expiry) (x y : Host) (cs : List HostCall) → Run i hw x cs y
      → StandsPreferred w a (addrs_of x.addrs) → All (PrefersTo w hw a) (prefixes_of x.slaac) → All (Renewing i w hw a) cs
      → StandsPreferred w a (addrs_of y.addrs)
  -- The state in which document 01's event file ends is such, with w 1,800,500: a poll before leaves it so, and a poll at that time deprecates it.
  pub there : StandsPreferred (At (ms 1800500)) formed (addrs_of end.addrs)
  pub long : All (PrefersTo (At (ms 1800500)) mac formed) (prefixes_of end.slaac)
  pub before : preferred_in formed (addrs_of (polled_again 1800499).addrs) ≡ Until (At (ms 1800500))
  pub at_last : preferred_in formed (addrs_of (polled_again 1800500).addrs) ≡ Never
