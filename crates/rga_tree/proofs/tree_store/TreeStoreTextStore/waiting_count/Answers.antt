use Rattle.std.proofs.Common.{◌≡◌, ◌+◌, ◌-◌, length, ap, ◌∙◌, arith}
use Rattle.std.specs.FinMap as finite_map
use Rattle.rga_ops.specs.Content.{Content}
use Rattle.rga_ops.specs.Order.{order, waiting}
use Rattle.rga_ops.proofs.WaitingLaws.{ordered_and_waiting}
use Rattle.rga_store.specs.Kept.{Kept}
use Rattle.rga_tree.specs.Nodes.{content_of_nodes}
use Rattle.rga_store.proofs.StepLaws.{len-keys}
use Rattle.rga_tree.proofs.tree_store.TreeStoreTextStore.waiting_count.Goals as goal

-- each inserted element stands in the order or waits
all : (c : Content) → length (order c) + length (waiting c) ≡ finite_map.len c.inserted
all c = ordered_and_waiting c ∙ len-keys c

pub overflow_sub-result : goal.overflow_sub-result
overflow_sub-result c =
    omega (arith, all (content_of_nodes c.self.inside.nodes.entries), c.self.invariant.counted.inserted, ap length (c.as_slice.ensures.value ∙ c.in_ok-order.ensures.ok))

pub returns : goal.returns
returns c = record {
  ok =
      omega (arith, all (content_of_nodes c.self.inside.nodes.entries), c.self.invariant.counted.inserted, ap length (c.as_slice.ensures.value ∙ c.in_ok-order.ensures.ok))
      ∙ ap (λ (v : Kept). length (waiting v.content)) c.self.view_is;
}
