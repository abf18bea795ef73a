use Rattle.rga_ops.proofs.CaseSteps.{on_err_always}
use Rattle.mgr_show.proofs.ClaimsLaws.{tells, begins_to_tell}
use Rattle.mgr_show.proofs.claims.write_claims.Goals as goal

pub returns-in_err-send_lines-clause-begun : goal.returns-in_err-send_lines-clause-begun
returns-in_err-send_lines-clause-begun g c =
    on_err_always c.from_residual-in_err-send_lines.result (begins_to_tell _ _ _ _ _ _ _ _ c.in_ok-log.ensures.read c.as_slice.ensures.value c.in_ok-text.ensures.ok c.in_err-send_lines.ensures.begun)

pub returns-clause-told : goal.returns-clause-told
returns-clause-told g c = tells _ _ _ _ _ _ _ _ c.in_ok-log.ensures.read c.as_slice.ensures.value c.in_ok-text.ensures.ok c.in_ok-send_lines.ensures.written
