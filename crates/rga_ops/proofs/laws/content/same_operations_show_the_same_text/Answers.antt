use Rattle.std.proofs.Common.{ap}
use Rattle.rga_ops.specs.Order.{order, text}
use Rattle.rga_ops.proofs.OperationLaws.{same_operations_same_content}
use Rattle.rga_ops.proofs.laws.content.same_operations_show_the_same_text.Goals as goal

pub returns : goal.returns
returns c = record {
  content = same_operations_same_content;
  order = λ xs ys agreed same. ap order (same_operations_same_content xs ys agreed same);
  text = λ xs ys agreed same. ap text (same_operations_same_content xs ys agreed same);
}
