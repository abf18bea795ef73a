use Rattle.std.proofs.Common.{◌++◌, ap, ◌∙◌, subst}
use Rattle.std.specs.Result.{OnOk}
use Rattle.std.specs.List.{filter_map}
use Rattle.std.specs.FinMap as finite_map
use Rattle.rga_ops.specs.Content.{Content}
use Rattle.rga_ops.specs.Operations.{insertion_at, insertions}
use Rattle.rga_ops.proofs.OperationsLaws.{insertions_by_keys}
use Rattle.rga_store.specs.Kept.{Kept}
use Rattle.rga_tree.specs.Nodes.{content_of_nodes}
use Rattle.rga_tree.proofs.tree_store.TreeStoreTeller.tell_insertions.Goals as goal

pub returns : goal.returns
returns g c = record {
  ok =
      let held : Content = content_of_nodes c.self.inside.nodes.entries in
      rw (← (c.deref.ensures.value ∙ c.in_ok-list_insertions.ensures.ok ∙ ap (λ xs. xs ++ filter_map (insertion_at held) (finite_map.keys held.inserted)) c.new-told.ensures.items ∙ insertions_by_keys held ∙ ap (λ (v : Kept). insertions v.content) c.self.view_is))
      c.tell_each.ensures.ok;
}
