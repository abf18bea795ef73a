use Rattle.rga_ops.proofs.PathLaws.{one_element, not_complete_root}
use Rattle.rga_ops.proofs.BeforeLaws.{before_irreflexive, before_transitive, before_total}
use Rattle.rga_ops.proofs.laws.order.path_order_is_strict_and_total.Goals as goal

pub returns : goal.returns
returns c = record {
  irreflexive = before_irreflexive;
  transitive = before_transitive;
  total = before_total;
  own_path = λ c a b p complete_a complete_b path_a path_b. one_element (not_complete_root complete_a) (not_complete_root complete_b) path_a path_b;
}
