use Rattle.mg_screen.proofs.SidewaysCursorLaws.{point_cell}
use Rattle.mg_screen.proofs.laws.the_cell_of_point_is_the_cursors.Goals as goal

pub returns : goal.returns
returns c = λ columns index s p at found is. point_cell columns index s p at found is
