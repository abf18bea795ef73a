use Rattle.std.proofs.Common.{◌++◌, map, ap, ◌∙◌, subst}
use Rattle.std.specs.Result.{OnOk}
use Rattle.std.specs.FinSet as finite_set
use Rattle.rga_ops.specs.Content.{Content}
use Rattle.rga_ops.specs.Operations.{rising, deletions}
use Rattle.rga_ops.specs.declared.op.Op.TheVariants.{Delete}
use Rattle.rga_store.specs.Kept.{Kept}
use Rattle.rga_tree.specs.Nodes.{content_of_nodes}
use Rattle.rga_tree.proofs.tree_store.TreeStoreTeller.tell_deletions.Goals as goal

pub returns : goal.returns
returns g c = record {
  ok =
      let held : Content = content_of_nodes c.self.inside.nodes.entries in
      rw (← (c.deref.ensures.value ∙ c.in_ok-list_deletions.ensures.ok ∙ ap (λ xs. xs ++ map Delete (rising (finite_set.items held.deleted))) c.new-told.ensures.items ∙ ap (λ (v : Kept). deletions v.content) c.self.view_is))
      c.tell_each.ensures.ok;
}
