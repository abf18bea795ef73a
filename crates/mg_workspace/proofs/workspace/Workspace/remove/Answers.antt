use Rattle.std.proofs.Common.{rules, ◌<◌, length, arith, sym, subst}
use Rattle.mg_workspace.specs.Viewports.{layout_without, AreShown}
use Rattle.mg_workspace.proofs.ViewportLaws.{removed_shown}
use Rattle.mg_workspace.proofs.workspace.Workspace.remove.Goals as goal

pub invariant_of-self : goal.invariant_of-self
invariant_of-self g c =
    let s = c.self.inside in
    let inside : c.args.index < length s.buffers.all = search rules in
    let others : 1 < length s.buffers.all = omega (arith, c.if-count-le1.false, c.count.ensures) in
    let shown = removed_shown s.buffers s.windows c.args.index c.self.invariant.2 inside others in
    let now = subst (λ bs. AreShown bs (layout_without c.args.index s.windows)) (sym c.remove.ensures) shown in
    (c.self.invariant.0, c.self.invariant.1, subst (AreShown c.remove.new.self) (sym c.leave.ensures) now)
