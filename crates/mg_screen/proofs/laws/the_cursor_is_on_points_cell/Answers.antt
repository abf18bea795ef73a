use Rattle.mg_screen.proofs.CursorLaws.{cursor_on_cell}
use Rattle.mg_screen.proofs.laws.the_cursor_is_on_points_cell.Goals as goal

pub returns : goal.returns
returns c = λ columns index s p at x found is cell inside. cursor_on_cell columns s index p at x found is cell inside
