use Rattle.mgr_show.proofs.JoinWordsLaws.{joined-iff}
use Rattle.mgr_show.proofs.laws.logs_that_agree_are_joined.Goals as goal

pub returns : goal.returns
returns c = joined-iff
