use Rattle.rga_ops.proofs.ClockLaws.{clock_within, within_clock}
use Rattle.rga_ops.proofs.laws.content.the_clock_is_the_greatest_counter.Goals as goal

pub returns-clause-bound : goal.returns-clause-bound
returns-clause-bound c = within_clock

pub returns-clause-least : goal.returns-clause-least
returns-clause-least c = clock_within
