use Rattle.rga_ops.proofs.NewLaws.{holds-iff, content-new, new_among, new_not_held, held_or_new, new_in_parts, new_if_new, none_if_known}
use Rattle.rga_ops.proofs.laws.taking.new_operations_in_words.Goals as goal

pub returns : goal.returns
returns c = record {
  held = holds-iff;
  content = content-new;
  of_the_list = λ c ops op m. (new_among c ops op m, new_not_held c ops op m);
  no_other = held_or_new;
  in_parts = new_in_parts;
  new = new_if_new;
  known = none_if_known;
}
