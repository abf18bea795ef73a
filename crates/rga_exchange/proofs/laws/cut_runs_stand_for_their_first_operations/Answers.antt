use Rattle.rga_exchange.proofs.RunLineLaws.{runs_begun}
use Rattle.rga_exchange.proofs.laws.cut_runs_stand_for_their_first_operations.Goals as goal

pub returns : goal.returns
returns c = runs_begun
