use Rattle.std.proofs.Common.{◌≡◌, ap, ◌∙◌, inl, inr}
use Rattle.rga_ops.specs.Content.{single}
use Rattle.rga_ops.proofs.AnswerLaws.{ok}
use Rattle.rga_ops.proofs.ContentLaws.{within_join}
use Rattle.rga_ops.specs.declared.refusal.Taken.TheVariants.{New}
use Rattle.rga_store.specs.Back.{without_noted}
use Rattle.rga_store.proofs.BackLaws.{was_new, without_noted-push, one_step_more, without_taken, last_taken}
use Rattle.rga_flat.proofs.BackLaws.{inserted_later}
use Rattle.rga_flat.proofs.whole_list.take_noted.Goals as goal

pub returns-in-New-clause-steps : goal.returns-in-New-clause-steps
returns-in-New-clause-steps c =
    let is_new : c.take.result ≡ ok New = c.in_ok-take.was ∙ ap ok c.in-New.is in
    rw c.note.ensures.noted
    (one_step_more _ _ _ (last_taken _ _ _ c.args.op.now (was_new _ _ c.args.op.now _ is_new c.take.ensures.exact) (c.take.ensures.new is_new) _ _ c.clock-clock.ensures (rw c.in_ok-reserve.ensures.items c.requires.back)))

pub returns-in-New-clause-start : goal.returns-in-New-clause-start
returns-in-New-clause-start c =
    let is_new : c.take.result ≡ ok New = c.in_ok-take.was ∙ ap ok c.in-New.is in
    ap (λ ss. without_noted ss c.take.new.records.content) c.note.ensures.noted ∙ without_noted-push c.reserve.new.self.items _ c.take.new.records.content
    ∙ (λ i. without_noted (c.in_ok-reserve.ensures.items i) (without_taken _ _ _ c.args.op.now (was_new _ _ c.args.op.now _ is_new c.take.ensures.exact) (c.take.ensures.new is_new) i))

pub returns-in-New-clause-inserted : goal.returns-in-New-clause-inserted
returns-in-New-clause-inserted c = λ p t.
    elim (c.in_ok-take.ensures.inserted p t) [
      | inl old ↦ inserted_later c.args.records.now.content c.take.new.records.content (rw (c.take.ensures.new (c.in_ok-take.was ∙ ap ok c.in-New.is)) (within_join c.args.records.now.content (single c.args.op.now))) p (c.requires.inserted p old)
      | inr there ↦ there
    ]
