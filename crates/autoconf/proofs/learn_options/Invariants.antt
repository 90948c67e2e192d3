use Rattle.std.proofs.Common.{◌-◌, length}
use Rattle.autoconf.proofs.AdvertLaws.{Teaching}
use Rattle.autoconf.proofs.learn_options.Given as goal

-- the options from `at` on are still to be learned
abbrev pub invariant-loop-option : goal.invariant-loop-option
invariant-loop-option l = Teaching l.timestamp l.msg l.fn.slaac l.slaac l.lladdr l.at

abbrev pub decreases-loop-option : goal.decreases-loop-option
decreases-loop-option l = length l.msg - l.at
