use Rattle.streams.specs.Reading.{Fits}
use Rattle.caller.proofs.run_lines.Given as goal

abbrev pub invariant-loop : goal.invariant-loop
invariant-loop g l = Fits l.buf l.run.reader
