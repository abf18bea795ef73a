use Rattle.mgr_show.proofs.HeadLaws.{heard_as_told}
use Rattle.mgr_show.proofs.laws.claims_are_heard_as_they_were_told.Goals as goal

pub returns : goal.returns
returns c = heard_as_told
