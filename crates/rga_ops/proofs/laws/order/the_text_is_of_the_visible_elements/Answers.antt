use Rattle.rga_ops.proofs.VisibleLaws.{visible_elements, text_is, text_long, visible_distinct, own_index}
use Rattle.rga_ops.proofs.laws.order.the_text_is_of_the_visible_elements.Goals as goal

pub returns : goal.returns
returns c = record { visible = visible_elements; characters = text_is; length = text_long; once = visible_distinct; own_index = own_index }
