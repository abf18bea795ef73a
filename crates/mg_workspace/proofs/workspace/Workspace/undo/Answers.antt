use Rattle.std.proofs.Common.{◌∙◌}
use Rattle.mg_buffer.specs.Faults.{undo_answer}
use Rattle.mg_buffer.specs.Undid.{Undid}
use Rattle.mg_workspace.proofs.InCurrent.{acted}
use Rattle.mg_workspace.proofs.workspace.Workspace.undo.Goals as goal

pub returns-clause-undid : goal.returns-clause-undid
returns-clause-undid g c =
    let answer = c.undo-answer.ensures in
    acted (λ w b. undo_answer b) (λ w b. Undid b w.notes) _ _ _ _ _ _ _ c.self.view_is (c.behind-self.view_is ∙ c.current_mut.ensures.value)
    answer.exact answer.undid answer.same answer.memo c.of_buffer.ensures
