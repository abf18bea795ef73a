use Rattle.std.proofs.Common.{◌≡◌, sym, ap, ◌∙◌, subst}
use Rattle.rga_ops.specs.Content.{clock_of}
use Rattle.rga_ops.proofs.AnswerLaws.{ok}
use Rattle.rga_ops.specs.declared.refusal.Taken.TheVariants.{New}
use Rattle.rga_store.specs.Kept.{Kept}
use Rattle.rga_store.specs.Back.{without_noted, CanTakeBack}
use Rattle.rga_store.proofs.BackLaws.{was_new, without_noted-push, one_step_more, without_taken, last_taken}
use Rattle.rga_tree.proofs.tree_store.TreeStore.take_noted.Goals as goal

pub returns-in-New-clause-steps : goal.returns-in-New-clause-steps
returns-in-New-clause-steps c =
    let is_new : c.take.result ≡ ok New = c.in_ok-take.was ∙ ap ok c.in-New.is in
    rw c.note.ensures.noted
    (one_step_more _ _ _ (last_taken _ _ _ c.args.op.now (was_new _ _ c.args.op.now _ is_new c.take.ensures.exact) (c.take.ensures.new is_new) _ _
    (c.self.invariant.counted.clocked ∙ ap (λ (v : Kept). clock_of v.content) c.self.view_is) (rw c.in_ok-reserve.ensures.items c.requires)))

pub returns-in-New-clause-start : goal.returns-in-New-clause-start
returns-in-New-clause-start c =
    let is_new : c.take.result ≡ ok New = c.in_ok-take.was ∙ ap ok c.in-New.is in
    ap (λ ss. without_noted ss c.take.new.self.content) c.note.ensures.noted ∙ without_noted-push c.reserve.new.self.items _ c.take.new.self.content
    ∙ (λ i. without_noted (c.in_ok-reserve.ensures.items i) (without_taken _ _ _ c.args.op.now (was_new _ _ c.args.op.now _ is_new c.take.ensures.exact) (c.take.ensures.new is_new) i))
