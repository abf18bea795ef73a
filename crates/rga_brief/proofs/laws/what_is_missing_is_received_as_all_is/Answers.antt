use Rattle.rga_brief.proofs.ReceivedLaws.{received_as_all}
use Rattle.rga_brief.proofs.laws.what_is_missing_is_received_as_all_is.Goals as goal

pub returns : goal.returns
returns c = received_as_all
