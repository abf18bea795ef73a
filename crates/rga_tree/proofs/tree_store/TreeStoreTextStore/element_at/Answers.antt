use Rattle.std.proofs.Common.{arith}
use Rattle.rga_tree.specs.Nodes.{content_of_nodes}
use Rattle.rga_store.proofs.CountedLaws.{few_inserted}
use Rattle.rga_tree.proofs.tree_store.TreeStoreTextStore.element_at.Goals as goal

pub element_at-requires-clause-few : goal.element_at-requires-clause-few
element_at-requires-clause-few c = omega (arith, c.self.invariant.counted.inserted, few_inserted _ _ _ _ _ c.self.invariant.counted)
