use Rattle.std.proofs.Common.{◌≡◌, ◌∙◌, ◌<◌, ℕ, List, Some, length, get_or, slice_get, sym, ap, arith}
use Rattle.std.proofs.lemmas.List.{length-map}
use Rattle.std.proofs.lemmas.Option.{slice_get-get_or}
use Rattle.mg_buffer.specs.OpenState.{OpenState}
use Rattle.mg_screen.specs.Layout.{Window, heights}
use Rattle.mg_workspace.specs.declared.viewport.Viewport.{Viewport}
use Rattle.mg_editor.proofs.FrameLaws.{rows_and_name_there}
use Rattle.mg_editor.proofs.live_status.window_status.Goals as goal

pub returns : goal.returns
returns g c =
    let work = c.args.work.now in
    let ws = work.windows.windows in
    let many = length-map ws (λ (w : Window Viewport). w.height) in
    let inside : c.args.window < length (heights ws) = omega (arith, many, c.requires) in
    let h : ℕ = get_or c.heights.result.now c.args.window 0 in
    let tall : slice_get (heights ws) c.args.window ≡ Some h =
    slice_get-get_or (heights ws) c.args.window 0 inside ∙ ap (λ (hs : List ℕ). Some (get_or hs c.args.window 0)) (sym c.heights.ensures) in
    let name = c.name.ensures ∙ ap (λ (o : OpenState). o.buffer.name) (c.behind-work.view_is ∙ c.at.ensures) in
    rows_and_name_there work.buffers ws c.args.window h c.buffer_shown.result tall c.buffer_shown.ensures.exact ∙ ap (λ (n : List ℕ). Some (h, n)) (sym name)
