use Rattle.mg_live.proofs.BlockLaws.{told_held}
use Rattle.mg_live.proofs.laws.what_is_told_is_in_the_log.Goals as goal

pub returns : goal.returns
returns c before after block s t told made stands kept calls adds leads = told_held before after block s t told made leads stands kept calls adds
