use Rattle.rga_ops.proofs.PlaceLaws.{index_of_place}
use Rattle.rga_ops.proofs.VisibleLaws.{no_place, place_at}
use Rattle.rga_ops.proofs.laws.order.places_in_words.Goals as goal

pub returns : goal.returns
returns c = record { none = no_place; of_visible = place_at; at_index = index_of_place }
