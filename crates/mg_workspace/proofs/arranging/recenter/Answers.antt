use Rattle.std.proofs.Common.{sym, subst}
use Rattle.mg_screen.specs.Layout.{Layout}
use Rattle.mg_workspace.specs.declared.viewport.Viewport.{Viewport}
use Rattle.mg_workspace.specs.Viewports.{viewport, ShowThese}
use Rattle.mg_workspace.proofs.ViewportLaws.{show_at}
use Rattle.mg_workspace.proofs.arranging.recenter.Goals as goal

pub returns-clause-shown : goal.returns-clause-shown
returns-clause-shown g c = λ n all.
    let x = viewport c.current_viewport-buffer.result.buffer c.centred_line-first.result in
    let left = show_at n c.current-index.result x c.args.windows.now.windows (c.current_viewport-buffer.ensures.within n all) all in
    subst (λ (v : Layout Viewport). ShowThese n v.windows) (sym c.show.ensures.exact) left
