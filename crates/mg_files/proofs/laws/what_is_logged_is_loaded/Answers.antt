use Rattle.mg_files.proofs.LogSteps.{opened_again}
use Rattle.mg_files.proofs.laws.what_is_logged_is_loaded.Goals as goal

pub returns : goal.returns
returns c = opened_again
