use Rattle.mg_screen.proofs.SidewaysCellLaws.{cell_shows}
use Rattle.mg_screen.proofs.laws.the_cell_of_a_place_shows_its_character.Goals as goal

pub returns : goal.returns
returns c = λ columns index place s p at x found is here some. cell_shows columns index place s p at x found is here some
