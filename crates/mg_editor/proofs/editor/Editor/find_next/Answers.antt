use Rattle.std.proofs.Common.{rules, ◌≡◌, IfOk, subst}
use Rattle.mg_minibuffer.specs.ReplacementStep.{asks_at_next_match}
use Rattle.mg_workspace.specs.Workspaces.{scene_of}
use Rattle.mg_editor.specs.Presses.{Ended}
use Rattle.mg_editor.proofs.editor.Editor.find_next.Goals as goal

pub returns-in-Ok-clause-found : goal.returns-in-Ok-clause-found
returns-in-Ok-clause-found g c =
    let found : c.in-Ok.ending ≡ asks_at_next_match c.args.pattern.now c.args.put.now c.args.count (scene_of c.args.self.now.work) = search rules in
    subst (λ e. IfOk c.end.result (Ended e c.args.self.now c.end.new.self)) found (search rules)
