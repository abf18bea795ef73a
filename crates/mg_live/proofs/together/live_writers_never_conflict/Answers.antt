use Rattle.mg_live.proofs.TogetherLaws.{shared_joins}
use Rattle.mg_live.proofs.together.live_writers_never_conflict.Goals as goal

pub returns : goal.returns
returns c = shared_joins
