use Rattle.rga_doc.proofs.PlaceLaws.{stands_still}
use Rattle.rga_doc.proofs.laws.reverting.what_has_a_place_keeps_one.Goals as goal

pub returns : goal.returns
returns c = stands_still
