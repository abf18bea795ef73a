use Rattle.mg_plain.proofs.LayoutLaws.{all_joints, some_layout}
use Rattle.mg_plain.proofs.laws.text.filling_makes_the_layout.Goals as goal

pub returns : goal.returns
returns c = record {
  some = λ column lengths. some_layout column lengths;
  made = λ column lo hi words ns some lay. all_joints column lo hi words ns some lay;
}
