use Rattle.mg_files.proofs.OpenSteps.{opened_kept}
use Rattle.mg_files.proofs.laws.what_is_opened_is_logged.Goals as goal

pub returns : goal.returns
returns c = opened_kept
