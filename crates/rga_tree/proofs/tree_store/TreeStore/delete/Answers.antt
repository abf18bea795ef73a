use Rattle.std.proofs.Common.{◌≡◌, ◌+◌, cond, is_some, sym, ap, ◌∙◌, subst}
use Rattle.std.specs.Prelude.{Ok, max}
use Rattle.std.specs.FinMap as finite_map
use Rattle.rga_ops.specs.Content.{Content, join, single}
use Rattle.rga_ops.specs.Answer.{answer}
use Rattle.rga_ops.specs.declared.op.Op.TheVariants.{Delete}
use Rattle.rga_ops.specs.declared.refusal.Taken.TheVariants.{New}
use Rattle.rga_store.specs.Kept.{Kept}
use Rattle.rga_tree.proofs.NodeLaws.{element_of, inserted_at}
use Rattle.rga_tree.proofs.TreeLaws.{tree_deletion}
use Rattle.rga_tree.proofs.tree_store.TreeStore.delete.Goals as goal

pub returns-in_err-index-clause-growth : goal.returns-in_err-index-clause-growth
returns-in_err-index-clause-growth c = λ _.
    ap (λ (v : Kept). finite_map.contains_key v.content.inserted c.args.id) (sym c.self.view_is)
    ∙ ap is_some (inserted_at c.self.inside.nodes.entries c.self.invariant.apart c.args.id ∙ ap element_of c.in_err-index.ensures.absent)

pub invariant_of-self-2 : goal.invariant_of-self-2
invariant_of-self-2 c =
    tree_deletion _ _ _ _ _ _ c.self.invariant c.mark-inserted.ensures.apart c.args.id _ _ (subst (λ (v : Kept). answer v.limit v.content (Delete c.args.id) ≡ Ok New) (sym c.self.view_is) c.requires)
    (c.mark-inserted.ensures.content ∙ ap (λ d. join d (single (Delete c.args.id))) c.in_ok-index.ensures.content)
    (λ p. c.mark-inserted.ensures.children p ∙ c.in_ok-index.ensures.children p)
    (c.raise.ensures ∙ ap (max c.self.inside.clock) c.counter.ensures.value)
    (c.count_unless.ensures ∙ ap (λ b. cond b c.self.inside.known (c.self.inside.known + 1)) (c.mark-inserted.ensures.inserted ∙ ap (λ (d : Content). finite_map.contains_key d.inserted c.args.id) c.in_ok-index.ensures.content))
