use Rattle.rga_doc.proofs.RevertedLaws.{reverted_complete, reverted_restorable}
use Rattle.rga_doc.proofs.laws.reverting.a_revert_can_be_reverted.Goals as goal

pub returns : goal.returns
returns c = record { inserted = reverted_complete; restorable = reverted_restorable }
