use Rattle.std.proofs.Common.{ap}
use Rattle.rga_ops.specs.Order.{order, text}
use Rattle.rga_ops.proofs.TookLaws.{took_taken, took_content, took_same}
use Rattle.rga_ops.proofs.laws.taking.replicas_that_took_the_same_hold_the_same.Goals as goal

pub returns : goal.returns
returns c = record {
  taken = took_taken;
  held = took_content;
  content = took_same;
  order = λ xs ys c d t u agreed same. ap order (took_same xs ys c d t u agreed same);
  text = λ xs ys c d t u agreed same. ap text (took_same xs ys c d t u agreed same);
}
