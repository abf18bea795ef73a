use Rattle.rga_ops.proofs.OrderLaws.{precedes_irreflexive, precedes_transitive, precedes_total}
use Rattle.rga_ops.proofs.laws.order.elements_are_in_one_order.Goals as goal

pub returns : goal.returns
returns c = record { irreflexive = precedes_irreflexive; transitive = precedes_transitive; total = precedes_total }
