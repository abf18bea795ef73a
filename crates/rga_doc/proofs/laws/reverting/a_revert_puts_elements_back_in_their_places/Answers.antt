use Rattle.rga_doc.proofs.RevertLaws.{revert_taken, revert_order}
use Rattle.rga_doc.proofs.PutBackLaws.{revert_behind}
use Rattle.rga_doc.proofs.laws.reverting.a_revert_puts_elements_back_in_their_places.Goals as goal

pub returns : goal.returns
returns c = record {
  taken = revert_taken;
  order = revert_order;
  place = λ limit replica i c gone back b h at. revert_behind limit replica c gone back i b h at;
}
