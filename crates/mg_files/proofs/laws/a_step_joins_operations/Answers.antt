use Rattle.mg_files.proofs.ChangeSteps.{step_joins}
use Rattle.mg_files.proofs.laws.a_step_joins_operations.Goals as goal

pub returns : goal.returns
returns c = λ step b d s t. step_joins step b d s t
