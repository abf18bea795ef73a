use Rattle.mg_screen.proofs.CursorLaws.{cursor_on_sign}
use Rattle.mg_screen.proofs.laws.the_cursor_is_on_the_sign_of_a_cut_line.Goals as goal

pub returns : goal.returns
returns c = λ columns index s p at found is over behind. cursor_on_sign columns s index p at found is over behind
