use Rattle.autoconf.proofs.SyncLaws.{Stepping}
use Rattle.autoconf.specs.SyncRules.{sync_prefix}
use Rattle.autoconf.proofs.sync.sync_addrs.Given as goal

-- the prefixs from here on are still to come
abbrev pub invariant-loop-prefix : goal.invariant-loop-prefix
invariant-loop-prefix l = Stepping (sync_prefix l.hardware_addr l.now) l.initial.addrs l.prefix-items l.prefix-index l.addrs
