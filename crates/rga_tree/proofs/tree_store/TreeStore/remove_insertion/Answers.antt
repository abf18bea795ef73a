use Rattle.std.proofs.Common.{◌≡◌, ◌≤◌, ◌-◌, true, cond, not, ◌&&◌, is_some, sym, ap, ◌∙◌, subst}
use Rattle.rga_ops.specs.Identifier.{is_id}
use Rattle.rga_ops.specs.Content.{Content, clock_of}
use Rattle.rga_store.specs.Kept.{Kept}
use Rattle.rga_store.specs.Without.{without_insertion}
use Rattle.rga_tree.specs.Children.{has_child}
use Rattle.rga_tree.specs.Nodes.{content_of_nodes}
use Rattle.rga_store.specs.Child.{is_child}
use Rattle.rga_store.proofs.StepLaws.{IsChild, child_found}
use Rattle.rga_store.proofs.WithoutLaws.{one_inserted, one_insertion_known}
use Rattle.rga_tree.proofs.BackLaws.{tree_without_insertion}
use Rattle.rga_tree.proofs.tree_store.TreeStore.remove_insertion.Goals as goal

pub clear_element-deleted-requires : goal.clear_element-deleted-requires
clear_element-deleted-requires c =
    ap is_some (child_found (content_of_nodes c.self.inside.nodes.entries) c.args.parent c.args.id (ap (λ (v : Kept). is_child v.content c.args.parent c.args.id) c.self.view_is ∙ c.requires.child)).found

pub overflow_sub-self : goal.overflow_sub-self
overflow_sub-self c =
    let found = child_found (content_of_nodes c.self.inside.nodes.entries) c.args.parent c.args.id (ap (λ (v : Kept). is_child v.content c.args.parent c.args.id) c.self.view_is ∙ c.requires.child) in
    one_inserted _ _ _ _ _ c.self.invariant.counted c.args.id found.element found.found

pub uncount_unless-requires : goal.uncount_unless-requires
uncount_unless-requires c =
    let found = child_found (content_of_nodes c.self.inside.nodes.entries) c.args.parent c.args.id (ap (λ (v : Kept). is_child v.content c.args.parent c.args.id) c.self.view_is ∙ c.requires.child) in
    rw c.clear_element-deleted.ensures.deleted (one_insertion_known _ _ _ _ _ c.self.invariant.counted c.args.id found.element found.found)

pub invariant_of-self : goal.invariant_of-self
invariant_of-self c =
    tree_without_insertion _ _ _ _ _ _ c.self.invariant c.remove_child.ensures.apart c.args.id c.args.parent _ _
    (ap (λ (v : Kept). is_child v.content c.args.parent c.args.id) c.self.view_is ∙ c.requires.child)
    (c.remove_child.ensures.content ∙ c.clear_element-deleted.ensures.content)
    (λ p k. c.remove_child.ensures.removed p k ∙ ap (λ ks. has_child ks k && not (is_id c.args.parent p && is_id c.args.id k)) (c.clear_element-deleted.ensures.children p))
    c.remove_child.ensures.rising
    (c.requires.clock ∙ ap (λ (v : Kept). clock_of (without_insertion c.args.id v.content)) (sym c.self.view_is))
    (c.uncount_unless.ensures ∙ ap (λ b. cond b c.self.inside.known (c.self.inside.known - 1)) c.clear_element-deleted.ensures.deleted)
