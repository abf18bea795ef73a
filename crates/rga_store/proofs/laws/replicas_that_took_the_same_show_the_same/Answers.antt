use Rattle.std.proofs.Common.{ap}
use Rattle.rga_ops.specs.Order.{order, text}
use Rattle.rga_ops.proofs.TookLaws.{took_same}
use Rattle.rga_store.proofs.laws.replicas_that_took_the_same_show_the_same.Goals as goal

pub returns : goal.returns
returns g c = record {
  content = λ xs ys s t. took_same xs ys _ _;
  order = λ xs ys s t p q agreed same. ap order (took_same xs ys _ _ p q agreed same);
  text = λ xs ys s t p q agreed same. ap text (took_same xs ys _ _ p q agreed same);
}
