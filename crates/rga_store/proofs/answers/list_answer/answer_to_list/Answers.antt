use Rattle.rga_store.proofs.Prelude.{sym, ap, ◌∙◌, bad, no_early_if_none, checked_without_memory}
use Rattle.std.proofs.lemmas.Result.{err_from_is_err_and}
use Rattle.rga_store.proofs.answers.list_answer.answer_to_list.Goals as goal

pub returns-in_err-check_each-clause-memory : goal.returns-in_err-check_each-clause-memory
returns-in_err-check_each-clause-memory g c = λ h.
    let p = err_from_is_err_and c.from_residual.result c.from_residual.ensures.1 in
    absurd (checked_without_memory c.args.ops.now (sym c.check_each.ensures ∙ c.in_err-check_each.was ∙ ap bad (sym p.2) ∙ sym p.1 ∙ h))

pub returns-in_err-check_each-clause-early : goal.returns-in_err-check_each-clause-early
returns-in_err-check_each-clause-early g c = λ h.
    let p = err_from_is_err_and c.from_residual.result c.from_residual.ensures.1 in
    absurd (checked_without_memory c.args.ops.now (sym c.check_each.ensures ∙ c.in_err-check_each.was ∙ ap bad (sym p.2) ∙ sym p.1 ∙ h))

pub returns-in_err-count_new_ids-clause-early : goal.returns-in_err-count_new_ids-clause-early
returns-in_err-count_new_ids-clause-early g c = λ h. no_early_if_none (g.L.Lookup.holds c.args.held.now) c.args.ops.now (sym c.in_ok-id.ensures.ok ∙ c.in_default.is)
