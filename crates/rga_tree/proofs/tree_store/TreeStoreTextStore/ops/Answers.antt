use Rattle.std.proofs.Common.{◌++◌, map, ap, ◌∙◌}
use Rattle.std.specs.List.{filter_map}
use Rattle.std.specs.FinMap as finite_map
use Rattle.std.specs.FinSet as finite_set
use Rattle.rga_ops.specs.Content.{Content}
use Rattle.rga_ops.specs.Operations.{insertion_at, operations, rising}
use Rattle.rga_ops.proofs.OperationsLaws.{insertions_by_keys}
use Rattle.rga_ops.specs.declared.op.Op.TheVariants.{Delete}
use Rattle.rga_store.specs.Kept.{Kept}
use Rattle.rga_tree.specs.Nodes.{content_of_nodes}
use Rattle.rga_tree.proofs.tree_store.TreeStoreTextStore.ops.Goals as goal

pub returns : goal.returns
returns c = record {
  ok =
      let held : Content = content_of_nodes c.self.inside.nodes.entries in
      c.in_ok-list_deletions.ensures.ok
      ∙ ap (λ xs. xs ++ map Delete (rising (finite_set.items held.deleted)))
      (c.in_ok-list_insertions.ensures.ok ∙ ap (λ xs. xs ++ filter_map (insertion_at held) (finite_map.keys held.inserted)) c.new-ops.ensures.items ∙ insertions_by_keys held)
      ∙ ap (λ (v : Kept). operations v.content) c.self.view_is;
}
