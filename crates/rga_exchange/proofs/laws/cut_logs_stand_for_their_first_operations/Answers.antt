use Rattle.rga_exchange.proofs.BegunLogLaws.{stands_begun}
use Rattle.rga_exchange.proofs.laws.cut_logs_stand_for_their_first_operations.Goals as goal

pub returns : goal.returns
returns c = stands_begun
