use Rattle.rga_ops.proofs.DeletionLaws.{inserted-deletion, order-deletion, visible-deletion}
use Rattle.rga_ops.proofs.laws.order.a_deletion_moves_nothing.Goals as goal

pub returns : goal.returns
returns c = record { inserted = inserted-deletion; order = order-deletion; visible = visible-deletion }
