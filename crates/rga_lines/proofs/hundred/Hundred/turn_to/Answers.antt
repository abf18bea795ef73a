use Rattle.std.proofs.Common.{arith}
use Rattle.rga_lines.proofs.DigitsLemmas.{at_most_eighteen}
use Rattle.rga_lines.proofs.hundred.Hundred.turn_to.Goals as goal

pub put_number-self-inside-requires : goal.put_number-self-inside-requires
put_number-self-inside-requires c = record { room = omega (arith, at_most_eighteen c.args.number (omega arith)) }
