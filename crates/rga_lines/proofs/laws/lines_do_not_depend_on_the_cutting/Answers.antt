use Rattle.rga_lines.proofs.Prelude.{[], refl, splitting_with}
use Rattle.rga_lines.proofs.SplitterLemmas.{ends}
use Rattle.rga_lines.proofs.laws.lines_do_not_depend_on_the_cutting.Goals as goal

pub returns : goal.returns
returns c = record { whole = λ calls. (ends (splitting_with []) calls refl).whole; broken = λ calls. (ends (splitting_with []) calls refl).broken }
