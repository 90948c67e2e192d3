use Rattle.std.proofs.Common.{◌*◌}
use Rattle.ndisc.proofs.Checksum.{Summing}
use Rattle.ndisc.proofs.icmpv6.sum.Given as goal

-- the words so far are summed
abbrev pub invariant-loop-pair : goal.invariant-loop-pair
invariant-loop-pair l = Summing l.«data» l.accum (l.pair-index * 2)
