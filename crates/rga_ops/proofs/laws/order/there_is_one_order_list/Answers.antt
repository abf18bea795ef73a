use Rattle.rga_ops.specs.Order.{order}
use Rattle.rga_ops.proofs.OrderLaws.{order_list, order_unique, order_distinct}
use Rattle.rga_ops.proofs.laws.order.there_is_one_order_list.Goals as goal

pub returns : goal.returns
returns c = record { is_one = order_list; only = order_unique; once = λ c. order_distinct c (order c) (order_list c).in_order }
