use Rattle.std.proofs.Common.{ℕ, ◌∙◌}
use Rattle.mg_buffer.specs.Faults.{run_answer}
use Rattle.mg_buffer.specs.Ran.{Ran}
use Rattle.mg_buffer.specs.Sight.{command_call}
use Rattle.mg_workspace.proofs.AtIndexLaws.{acted_at, refused_at}
use Rattle.mg_workspace.proofs.workspace.Workspace.run_at.Goals as goal

pub returns-clause-ran : goal.returns-clause-ran
returns-clause-ran g c =
    let call = λ (fill : ℕ). command_call c.args.command.now c.args.argument fill in
    let answer = c.run-answer.ensures in
    acted_at c.args.index (λ w b. run_answer (call w.fill) b w.notes) (λ w b. Ran (call w.fill) b w.notes) _ _ _ _ _ _ _ c.self.view_is (c.opened.view_is ∙ c.at_mut-opened.ensures.value)
    answer.exact answer.ran answer.same answer.memo c.of_buffer.ensures

pub returns-clause-same : goal.returns-clause-same
returns-clause-same g c =
    let answer = c.run-answer.ensures in
    refused_at c.args.index _ _ _ _ _ _ _ c.self.view_is (c.opened.view_is ∙ c.at_mut-opened.ensures.value) answer.same answer.memo c.of_buffer.ensures
