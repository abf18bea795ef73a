use Rattle.std.proofs.Common.{◌∙◌, refl, sym}
use Rattle.std.proofs.lemmas.Result.{err_from_is_err_and}
use Rattle.rga_ops.proofs.CaseSteps.{on_err_always}
use Rattle.mgr_show.proofs.ShownLaws.{made_of_nothing}
use Rattle.mgr_show.proofs.JoinedLaws.{join_of_input, far_of_input, refused_of_input, joins, begins_to_join}
use Rattle.mgr_show.proofs.join.join_logs.Goals as goal

pub returns-in_err-compact_records-clause-begun : goal.returns-in_err-compact_records-clause-begun
returns-in_err-compact_records-clause-begun g c =
    let made = made_of_nothing c.in-Ok.records (c.in-Ok.ensures.made refl) in
    let content = join_of_input _ _ _ made.1 made.0 _ (sym c.is_far.ensures ∙ c.if-is_far.false) c.in_ok-take_logs.ensures.ok in
    on_err_always c.from_residual-in_err-compact_records.result (begins_to_join _ _ _ _ _ _ content c.in_ok-take_logs.ensures.deletion_runs c.in_err-compact_records.ensures.begun)

pub returns-in_err-take_logs-clause-refused : goal.returns-in_err-take_logs-clause-refused
returns-in_err-take_logs-clause-refused g c =
    let made = made_of_nothing c.in-Ok.records (c.in-Ok.ensures.made refl) in
    let fault = err_from_is_err_and c.from_residual.result c.from_residual.ensures.1 in
    refused_of_input _ _ _ made.1 made.0 c.from_residual.result _ fault c.in_err-take_logs.ensures.refused

pub returns-then-is_far-clause-refused : goal.returns-then-is_far-clause-refused
returns-then-is_far-clause-refused g c =
    let made = made_of_nothing c.in-Ok.records (c.in-Ok.ensures.made refl) in
    λ own. far_of_input _ _ _ made.1 made.0 _ (sym c.is_far.ensures ∙ c.if-is_far.true) c.in_ok-take_logs.ensures.ok

pub returns-clause-joined : goal.returns-clause-joined
returns-clause-joined g c =
    let made = made_of_nothing c.in-Ok.records (c.in-Ok.ensures.made refl) in
    let content = join_of_input _ _ _ made.1 made.0 _ (sym c.is_far.ensures ∙ c.if-is_far.false) c.in_ok-take_logs.ensures.ok in
    joins _ _ _ _ _ _ content c.in_ok-take_logs.ensures.deletion_runs c.in_ok-compact_records.ensures.stands c.in_ok-compact_records.ensures.ended c.in_ok-compact_records.ensures.written
