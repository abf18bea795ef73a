use Rattle.std.proofs.Common.{sym, ap, ◌∙◌, Some}
use Rattle.rga_ops.specs.Order.{text}
use Rattle.mg_buffer.specs.Sight.{place_of}
use Rattle.mg_buffer.specs.OpenState.{OpenState}
use Rattle.mg_screen.specs.Layout.{Window, window}
use Rattle.mg_screen.specs.Lines.{first_line}
use Rattle.mg_workspace.specs.declared.viewport.Viewport.{Viewport}
use Rattle.mg_workspace.specs.Viewports.{viewport}
use Rattle.mg_workspace.specs.Showing.{first_over}
use Rattle.mg_workspace.proofs.ViewportLaws.{shown_there, window_there}
use Rattle.mg_workspace.proofs.ShownWindows.{viewport_placed}
use Rattle.mg_workspace.proofs.showing.placed_viewport.Goals as goal

pub at-requires : goal.at-requires
at-requires g c = shown_there c.args.windows.now.windows c.args.index c.viewport_at-shown.result _ c.viewport_at-shown.ensures c.requires.shown

pub returns-clause-exact : goal.returns-clause-exact
returns-clause-exact g c =
    let shown = c.viewport_at-shown.result in
    let height = c.height_at-height.result in
    let w : Window Viewport = window height shown in
    let there = window_there c.args.windows.now.windows c.args.index height shown c.height_at-height.ensures c.viewport_at-shown.ensures in
    let b = c.behind-buffers.inside.buffer in
    let first = c.first_line.ensures (text b.content) (place_of b.content b.point) c.in_ok-sight.ensures.line
    ∙ ap (λ (o : OpenState). first_line (text o.buffer.content) (place_of o.buffer.content o.buffer.point) shown.first height) c.behind-buffers.view_is
    ∙ ap (λ o. first_over o w) (sym c.at.ensures) in
    viewport_placed c.args.buffers.now.all c.args.windows.now.windows c.args.index w there ∙ ap (λ n. Some (viewport shown.buffer n)) (sym first)
