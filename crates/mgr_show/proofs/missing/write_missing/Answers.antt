use Rattle.std.proofs.Common.{◌∙◌}
use Rattle.rga_ops.proofs.CaseSteps.{on_err_always}
use Rattle.mgr_show.proofs.MissingLaws.{writes_missing, begins_missing}
use Rattle.mgr_show.proofs.missing.write_missing.Goals as goal

pub returns-in_err-number-clause-begun : goal.returns-in_err-number-clause-begun
returns-in_err-number-clause-begun g c =
    on_err_always c.from_residual-in_err-number.result (begins_missing _ _ _ _ _ _ _ _ _ _ c.in_ok-peer.ensures.ok (c.read_claims.ensures.same _) c.in-Ok.ensures.read (c.deref.ensures.value ∙ c.in_ok-ops.ensures.ok) c.in_err-number.ensures.begun)

pub returns-clause-written : goal.returns-clause-written
returns-clause-written g c =
    writes_missing _ _ _ _ _ _ _ _ _ _ _ c.in_ok-peer.ensures.ok (c.read_claims.ensures.same _) c.in-Ok.ensures.read c.known-known.ensures.sound (c.deref.ensures.value ∙ c.in_ok-ops.ensures.ok) c.in_ok-number.ensures.number c.in_ok-number.ensures.written c.in_ok-number.ensures.joined
