use Rattle.mg_files.proofs.ChangeSteps.{after_save}
use Rattle.mg_files.proofs.laws.a_save_loses_nothing.Goals as goal

pub returns : goal.returns
returns c = λ answer held. after_save held answer
