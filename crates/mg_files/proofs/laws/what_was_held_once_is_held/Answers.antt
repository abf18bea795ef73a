use Rattle.mg_files.proofs.ChangeSteps.{after_run}
use Rattle.mg_files.proofs.laws.what_was_held_once_is_held.Goals as goal

pub returns : goal.returns
returns c = after_run
