use Rattle.std.proofs.Common.{rules, inr}
use Rattle.rga_ops.proofs.CaseSteps.{on_err_always}
use Rattle.mgr_mend.proofs.MergeLemmas.{begins_into, merges_into}
use Rattle.mgr_mend.proofs.merge.merge_loaded.Goals as goal

pub returns-in_err-write_note-clause-begun : goal.returns-in_err-write_note-clause-begun
returns-in_err-write_note-clause-begun g c =
    on_err_always c.from_residual-in_err-write_note.result (inr (begins_into _ _ _ _ _ _ _ c.args.adopt _ c.in_err-write_note.field-0.0 c.in_ok-torn.ensures.taken c.in_err-write_note.ensures.begun))

pub returns-clause-merged : goal.returns-clause-merged
returns-clause-merged g c = merges_into _ _ _ _ _ _ _ c.args.adopt _ c.in_ok-torn.ensures.taken (search rules) c.in_ok-write_note.ensures.written
