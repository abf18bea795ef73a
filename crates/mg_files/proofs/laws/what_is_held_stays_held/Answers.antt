use Rattle.mg_files.proofs.ChangeSteps.{after_step}
use Rattle.mg_files.proofs.laws.what_is_held_stays_held.Goals as goal

pub returns : goal.returns
returns c = λ step held. after_step held step
