use Rattle.rga_ops.proofs.PlaceLaws.{visible-deletion_cut, text-deletion_cut, visible-deletion_hidden, text-deletion_hidden}
use Rattle.rga_ops.proofs.laws.places.a_deletion_cuts_one_element_or_none.Goals as goal

pub returns : goal.returns
returns c = record {
  one = visible-deletion_cut;
  one_character = text-deletion_cut;
  none = visible-deletion_hidden;
  no_character = text-deletion_hidden;
}
