use Rattle.rga_brief.proofs.OneSummary.{one_summary}
use Rattle.rga_brief.proofs.laws.there_is_one_summary.Goals as goal

pub returns : goal.returns
returns c = one_summary
