use Rattle.rga_brief.proofs.HeardLaws.{heard-iff}
use Rattle.rga_brief.proofs.laws.what_is_heard_in_words.Goals as goal

pub returns : goal.returns
returns c = heard-iff
