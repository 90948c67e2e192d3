use Rattle.std.proofs.Common.{drop, ◌≡◌, ◌<◌}
use Rattle.text.specs.Decimal.{number_of, read_from}
use Rattle.text.proofs.number.read_number.Given as goal

-- what is left to read decides
abbrev pub invariant-loop-byte : goal.invariant-loop-byte
invariant-loop-byte l = (l.value < 18446744073709551616) × (number_of l.field ≡ read_from l.value (drop l.byte-index l.field))
