use Rattle.mgr_show.proofs.JoinWordsLaws.{refused-iff}
use Rattle.mgr_show.proofs.laws.the_first_log_that_is_refused_is_named.Goals as goal

pub returns : goal.returns
returns c = refused-iff
