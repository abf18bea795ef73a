use Rattle.rga_brief.proofs.CountLaws.{few_claims}
use Rattle.rga_brief.proofs.laws.a_summary_has_few_claims.Goals as goal

pub returns : goal.returns
returns c = few_claims
