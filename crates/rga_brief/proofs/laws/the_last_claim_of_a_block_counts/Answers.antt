use Rattle.rga_brief.proofs.OneSummary.{last_counts}
use Rattle.rga_brief.proofs.laws.the_last_claim_of_a_block_counts.Goals as goal

pub returns : goal.returns
returns c = last_counts
