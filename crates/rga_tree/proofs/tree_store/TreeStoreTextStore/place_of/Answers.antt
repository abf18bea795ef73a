use Rattle.std.proofs.Common.{arith, Some, sym, ap, ◌∙◌}
use Rattle.rga_ops.specs.Content.{Content}
use Rattle.rga_ops.specs.Places.{place}
use Rattle.rga_store.specs.Kept.{Kept}
use Rattle.rga_tree.specs.Nodes.{content_of_nodes}
use Rattle.rga_store.proofs.CountedLaws.{few_inserted}
use Rattle.rga_tree.proofs.PrecedingLaws.{place_by}
use Rattle.rga_tree.proofs.CountingLaws.{stands_if_reaching, no_place_if_not}
use Rattle.rga_tree.proofs.tree_store.TreeStoreTextStore.place_of.Goals as goal

pub returns-then-not-reaches_root : goal.returns-then-not-reaches_root
returns-then-not-reaches_root c =
    no_place_if_not (content_of_nodes c.self.inside.nodes.entries) c.args.id (sym c.reaches_root.ensures ∙ c.if-not-reaches_root.true)
    ∙ ap (λ (v : Kept). place v.content c.args.id) c.self.view_is

pub count_up_to-requires-clause-few : goal.count_up_to-requires-clause-few
count_up_to-requires-clause-few c = omega (arith, c.self.invariant.counted.inserted, few_inserted _ _ _ _ _ c.self.invariant.counted)

pub count_up_to-requires-clause-complete : goal.count_up_to-requires-clause-complete
count_up_to-requires-clause-complete c = stands_if_reaching (content_of_nodes c.self.inside.nodes.entries) c.args.id (sym c.reaches_root.ensures ∙ c.if-not-reaches_root.false)

pub returns : goal.returns
returns c =
    let held : Content = content_of_nodes c.self.inside.nodes.entries in
    ap Some c.count_up_to.ensures ∙ sym (place_by held c.args.id (stands_if_reaching held c.args.id (sym c.reaches_root.ensures ∙ c.if-not-reaches_root.false)))
    ∙ ap (λ (v : Kept). place v.content c.args.id) c.self.view_is
