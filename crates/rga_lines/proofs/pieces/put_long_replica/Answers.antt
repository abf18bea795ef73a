use Rattle.std.proofs.Common.{arith}
use Rattle.rga_lines.proofs.DigitsLemmas.{at_most_five}
use Rattle.rga_lines.proofs.pieces.put_long_replica.Goals as goal

pub put_number-requires : goal.put_number-requires
put_number-requires c = record { room = omega (arith, at_most_five c.from.result (omega arith)) }

pub returns-clause-within : goal.returns-clause-within
returns-clause-within c = omega (arith, at_most_five c.from.result (omega arith))
