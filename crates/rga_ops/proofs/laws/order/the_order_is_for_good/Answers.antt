use Rattle.rga_ops.proofs.GrowLaws.{complete_stays, root_path_stays, order_within}
use Rattle.rga_ops.proofs.laws.order.the_order_is_for_good.Goals as goal

pub returns : goal.returns
returns c = record {
  complete = λ c d id w. complete_stays c d w id;
  path = λ c d id w. root_path_stays c d w id;
  order = order_within;
}
