use Rattle.std.proofs.Common.{sym, ap, subst, ◌∙◌}
use Rattle.mg_screen.specs.Layout.{all_shown}
use Rattle.mg_workspace.specs.Showing.{placed_work}
use Rattle.mg_workspace.specs.Viewports.{AreShown}
use Rattle.mg_workspace.specs.Workspaces.{Workspace}
use Rattle.mg_workspace.proofs.ShownWindows.{placed_shown}
use Rattle.mg_workspace.proofs.workspace.Workspace.place_windows.Goals as goal

pub invariant_of-self : goal.invariant_of-self
invariant_of-self g c =
    let s = c.self.inside in
    let are = c.requires ∙ ap (λ (w : Workspace). all_shown (placed_work w).windows.windows) (sym c.self.view_is) in
    let shown = placed_shown s.buffers s.windows c.self.invariant.2 in
    (c.self.invariant.0, c.self.invariant.1, subst (AreShown s.buffers) (sym (c.place_windows.ensures s.buffers.all are)) shown)
