use Rattle.mg_screen.proofs.SidewaysCursorLaws.{cursor_at_point_within, cell_within}
use Rattle.mg_screen.proofs.laws.the_cursor_at_point_is_in_the_frame.Goals as goal

pub returns-clause-cursor : goal.returns-clause-cursor
returns-clause-cursor c = λ columns index s at wide is. cursor_at_point_within columns index s at wide is

pub returns-clause-place : goal.returns-clause-place
returns-clause-place c = λ columns index place s at wide is. cell_within columns index place s at wide is
