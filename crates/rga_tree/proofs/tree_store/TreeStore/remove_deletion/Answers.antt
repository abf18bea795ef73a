use Rattle.std.proofs.Common.{◌≤◌, ◌-◌, cond, sym, ap, ◌∙◌, subst}
use Rattle.std.specs.FinSet as finite_set
use Rattle.rga_ops.specs.Content.{clock_of}
use Rattle.rga_store.specs.Kept.{Kept}
use Rattle.rga_store.specs.Without.{without_deletion}
use Rattle.rga_tree.specs.Nodes.{content_of_nodes}
use Rattle.rga_store.proofs.WithoutLaws.{one_deletion_known}
use Rattle.rga_tree.proofs.BackLaws.{tree_without_deletion}
use Rattle.rga_tree.proofs.tree_store.TreeStore.remove_deletion.Goals as goal

pub clear_mark-inserted-requires : goal.clear_mark-inserted-requires
clear_mark-inserted-requires c = ap (λ (v : Kept). finite_set.contains v.content.deleted c.args.id) c.self.view_is ∙ c.requires.deleted

pub uncount_unless-requires : goal.uncount_unless-requires
uncount_unless-requires c = rw c.clear_mark-inserted.ensures.inserted (one_deletion_known _ _ _ _ _ c.self.invariant.counted c.args.id (ap (λ (v : Kept). finite_set.contains v.content.deleted c.args.id) c.self.view_is ∙ c.requires.deleted))

pub invariant_of-self : goal.invariant_of-self
invariant_of-self c =
    tree_without_deletion _ _ _ _ _ _ c.self.invariant c.clear_mark-inserted.ensures.apart c.args.id _ _ (ap (λ (v : Kept). finite_set.contains v.content.deleted c.args.id) c.self.view_is ∙ c.requires.deleted)
    c.clear_mark-inserted.ensures.content c.clear_mark-inserted.ensures.children
    (c.requires.clock ∙ ap (λ (v : Kept). clock_of (without_deletion c.args.id v.content)) (sym c.self.view_is))
    (c.uncount_unless.ensures ∙ ap (λ b. cond b c.self.inside.known (c.self.inside.known - 1)) c.clear_mark-inserted.ensures.inserted)
