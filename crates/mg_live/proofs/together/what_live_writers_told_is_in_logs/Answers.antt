use Rattle.mg_live.proofs.TogetherLaws.{told_logged}
use Rattle.mg_live.proofs.together.what_live_writers_told_is_in_logs.Goals as goal

pub returns : goal.returns
returns c = told_logged
