-- Document 01, "Poll": the sync, by which what was learned becomes addresses and routes. Assumes nothing.
use Rattle.std.specs.Prelude.{ℕ, cond}
use Rattle.table.specs.Table.{fold_over}
use Rattle.time.specs.declared.Instant.{Instant}
use Rattle.time.specs.declared.Expiry.{Expiry}
use Rattle.time.specs.declared.Expiry.TheVariants.{At}
use Rattle.time.specs.ClockRules.{is_after}
use Rattle.wire.specs.declared.ethernet.HardwareAddress.{HardwareAddress}
use Rattle.wire.specs.declared.ipv6.Formed.{Formed}
use Rattle.wire.specs.declared.ipv6.Formed.TheVariants.{Nothing, Addr}
use Rattle.wire.specs.Rfc2464.{formed_of}
use Rattle.iface.specs.declared.addr.Preferred.{Preferred}
use Rattle.iface.specs.declared.addr.Preferred.TheVariants.{Until, Never}
use Rattle.iface.specs.declared.addr.IfaceAddrs.{IfaceAddrs}
use Rattle.iface.specs.declared.route.Routes.{Routes}
use Rattle.iface.specs.AddressRules.{addrs_of, with_addrs, put_addr, drop_addr}
use Rattle.iface.specs.RouteRules.{routes_of, with_routes, put_route, drop_route}
use Rattle.slaac.specs.declared.Prefix.{Prefix}
use Rattle.slaac.specs.declared.Router.{Router}
use Rattle.slaac.specs.declared.Slaac.{Slaac}
use Rattle.slaac.specs.LearnedRules.{prefixes_of, routers_of}

-- "Preferred is Until(t) if t > now, else Never."; request 2026-01: "The address table takes the same shape"
abbrev pub preferred_of : Instant → Expiry → Preferred
preferred_of now e = cond (is_after e now) (Until e) Never

-- "Valid (valid-until > now): a SLAAC entry of that address and length 64 takes the new preferred time, an application's entry stays, and a
-- missing one is appended if there is room." "Expired: a SLAAC entry goes and later ones move down."
abbrev pub sync_formed : Formed → Instant → IfaceAddrs → Prefix → IfaceAddrs
sync_formed Nothing now t p = t
sync_formed (Addr a) now t p =
    cond (is_after p.valid_until now)
    (with_addrs t (put_addr a (preferred_of now p.preferred_until) (addrs_of t)))
    (with_addrs t (drop_addr a (addrs_of t)))

-- "only length 64 forms an address"
unfoldable pub sync_prefix : HardwareAddress → Instant → IfaceAddrs → Prefix → IfaceAddrs
sync_prefix hw now t p = sync_formed (formed_of hw p.cidr) now t p

-- "Routers likewise, as default routes, heeding only this interface's SLAAC routes."
unfoldable pub sync_router : ℕ → Instant → Routes → Router → Routes
sync_router iface now t r =
    cond (is_after (At r.valid_until) now)
    (with_routes t (put_route iface r.addr r.valid_until (routes_of t)))
    (with_routes t (drop_route iface r.addr (routes_of t)))

-- "Prefixes in table order"
unfoldable pub sync_addrs : HardwareAddress → Instant → IfaceAddrs → Slaac → IfaceAddrs
sync_addrs hw now t s = fold_over (sync_prefix hw now) t (prefixes_of s)

unfoldable pub sync_routes : ℕ → Instant → Routes → Slaac → Routes
sync_routes iface now t s = fold_over (sync_router iface now) t (routers_of s)
