use Rattle.rga_brief.proofs.OneSummary.{comes_back}
use Rattle.rga_brief.proofs.laws.a_summary_comes_back_from_its_claims.Goals as goal

pub returns : goal.returns
returns c = comes_back
