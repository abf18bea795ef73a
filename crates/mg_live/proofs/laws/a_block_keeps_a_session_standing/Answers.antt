use Rattle.mg_live.proofs.BlockLaws.{block_goes}
use Rattle.mg_live.proofs.laws.a_block_keeps_a_session_standing.Goals as goal

pub returns : goal.returns
returns c before after block s t told made stands kept calls adds leads = (block_goes before after block s t told made leads stands kept calls adds).stands
