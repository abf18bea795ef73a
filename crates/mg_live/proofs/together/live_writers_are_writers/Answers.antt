use Rattle.mg_live.proofs.TogetherLaws.{are_writers}
use Rattle.mg_live.proofs.together.live_writers_are_writers.Goals as goal

pub returns : goal.returns
returns c = are_writers
