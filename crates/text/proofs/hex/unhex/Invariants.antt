use Rattle.text.proofs.HexLaws.{Unhexing}
use Rattle.text.proofs.hex.unhex.Given as goal

abbrev pub invariant-loop-i : goal.invariant-loop-i
invariant-loop-i l = Unhexing l.digits l.initial.out l.out l.i
