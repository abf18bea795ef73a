use Rattle.std.proofs.Common.{inr}
use Rattle.rga_ops.proofs.CaseSteps.{on_err_always}
use Rattle.mgr_mend.proofs.MergeLemmas.{begins_to_put}
use Rattle.mgr_mend.proofs.merge.put_note.Goals as goal

pub returns-in_err-write_note-clause-begun : goal.returns-in_err-write_note-clause-begun
returns-in_err-write_note-clause-begun g c =
    on_err_always c.from_residual-in_err-write_note.result (inr (begins_to_put _ _ _ _ _ _ _ c.in_ok-opened.ensures.loaded c.in_err-write_note.ensures.begun))
