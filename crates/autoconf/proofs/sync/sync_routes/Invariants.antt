use Rattle.autoconf.proofs.SyncLaws.{Stepping}
use Rattle.autoconf.specs.SyncRules.{sync_router}
use Rattle.autoconf.proofs.sync.sync_routes.Given as goal

-- the routers from here on are still to come
abbrev pub invariant-loop-router : goal.invariant-loop-router
invariant-loop-router l = Stepping (sync_router l.iface l.now) l.initial.routes l.router-items l.router-index l.routes
