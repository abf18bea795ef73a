use Rattle.std.proofs.Common.{arith, filter, length, ap, ◌∙◌}
use Rattle.rga_ops.specs.Places.{is_visible, visible}
use Rattle.rga_store.specs.Kept.{Kept}
use Rattle.rga_tree.specs.Nodes.{content_of_nodes}
use Rattle.rga_store.proofs.CountedLaws.{few_inserted}
use Rattle.rga_tree.proofs.tree_store.TreeStoreTextStore.visible_len.Goals as goal

pub count_up_to-requires-clause-few : goal.count_up_to-requires-clause-few
count_up_to-requires-clause-few c = omega (arith, c.self.invariant.counted.inserted, few_inserted _ _ _ _ _ c.self.invariant.counted)

pub returns : goal.returns
returns c =
    c.count_up_to.ensures
    ∙ ap (λ xs. length (filter (is_visible (content_of_nodes c.self.inside.nodes.entries)) xs)) c.last_element.ensures.last
    ∙ ap (λ (v : Kept). length (visible v.content)) c.self.view_is
