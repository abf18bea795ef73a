use Rattle.mg_files.proofs.ChangeSteps.{steps_join}
use Rattle.mg_files.proofs.laws.steps_join_operations.Goals as goal

pub returns : goal.returns
returns c = steps_join
