use Rattle.std.proofs.Common.{◌≡◌, sym, ap, ◌∙◌, subst}
use Rattle.rga_ops.proofs.AnswerLaws.{ok}
use Rattle.rga_ops.specs.declared.refusal.Taken.TheVariants.{New}
use Rattle.rga_store.specs.Back.{without_noted, CanTakeBack}
use Rattle.rga_store.proofs.BackLaws.{was_new, without_noted-push, one_step_more, without_taken, last_taken}
use Rattle.rga_records.proofs.taking.take_noted.Goals as goal

pub returns-in-New-clause-steps : goal.returns-in-New-clause-steps
returns-in-New-clause-steps c =
    let is_new : c.take_op.result ≡ ok New = c.in_ok-take_op.was ∙ ap ok c.in-New.is in
    let answered = was_new c.args.records.now.limit c.args.records.now.content c.args.op.now c.take_op.result is_new c.take_op.ensures.exact in
    subst (λ ss. CanTakeBack ss c.take_op.new.records.content) (sym c.note.ensures.noted)
    (one_step_more c.reserve.new.self.items (record { op = c.args.op; clock = c.clock-clock.result }) c.take_op.new.records.content
    (last_taken c.args.records.now.limit c.args.records.now.content c.take_op.new.records.content c.args.op.now answered (c.take_op.ensures.new is_new) c.reserve.new.self.items c.clock-clock.result c.clock-clock.ensures
    (subst (λ ss. CanTakeBack ss c.args.records.now.content) (sym c.in_ok-reserve.ensures.items) c.requires)))

pub returns-in-New-clause-start : goal.returns-in-New-clause-start
returns-in-New-clause-start c =
    let is_new : c.take_op.result ≡ ok New = c.in_ok-take_op.was ∙ ap ok c.in-New.is in
    let answered = was_new c.args.records.now.limit c.args.records.now.content c.args.op.now c.take_op.result is_new c.take_op.ensures.exact in
    ap (λ ss. without_noted ss c.take_op.new.records.content) c.note.ensures.noted
    ∙ without_noted-push c.reserve.new.self.items (record { op = c.args.op; clock = c.clock-clock.result }) c.take_op.new.records.content
    ∙ ap (without_noted c.reserve.new.self.items) (without_taken c.args.records.now.limit c.args.records.now.content c.take_op.new.records.content c.args.op.now answered (c.take_op.ensures.new is_new))
    ∙ ap (λ ss. without_noted ss c.args.records.now.content) c.in_ok-reserve.ensures.items
