use Rattle.rga_ops.proofs.PlaceLaws.{visible-insertion_place, text-insertion_place, visible-insertion_hidden, text-insertion_hidden}
use Rattle.rga_ops.proofs.laws.places.an_insertion_shows_one_element_or_none.Goals as goal

pub returns : goal.returns
returns c = record {
  one = λ c id parent ch k absent kept stands. visible-insertion_place c id parent ch k absent kept stands;
  one_character = λ c id parent ch k absent kept stands. text-insertion_place c id parent ch k absent kept stands;
  none = visible-insertion_hidden;
  no_character = text-insertion_hidden;
}
