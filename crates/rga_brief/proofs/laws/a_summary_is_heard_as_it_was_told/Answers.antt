use Rattle.rga_brief.proofs.TellingLaws.{told_is_heard}
use Rattle.rga_brief.proofs.laws.a_summary_is_heard_as_it_was_told.Goals as goal

pub returns : goal.returns
returns c = told_is_heard
