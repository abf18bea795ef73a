use Rattle.std.proofs.Common.{length, ap, ◌∙◌, arith}
use Rattle.rga_lines.proofs.DigitsLemmas.{at_most_twenty}
use Rattle.rga_lines.proofs.hundred.Hundred.put_other.Goals as goal

pub put_number-requires : goal.put_number-requires
put_number-requires c = record { room = omega (arith, at_most_twenty c.args.number (omega arith)) }

pub returns-clause-within : goal.returns-clause-within
returns-clause-within c = omega (arith, at_most_twenty c.args.number (omega arith), ap length (c.self.view_is ∙ c.turn_to.ensures))
