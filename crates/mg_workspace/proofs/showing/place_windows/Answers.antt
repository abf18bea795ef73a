use Rattle.std.proofs.Common.{◌<◌, length, slice_get, arith, sym, ap, ◌∙◌}
use Rattle.std.proofs.lemmas.Option.{slice_get-get_or}
use Rattle.mg_screen.specs.Layout.{Layout}
use Rattle.mg_workspace.specs.declared.viewport.Viewport.{Viewport}
use Rattle.mg_workspace.proofs.ViewportLaws.{length-shows_at}
use Rattle.mg_workspace.proofs.ShownWindows.{placed_on}
use Rattle.mg_workspace.proofs.showing.place_windows.Goals as goal

pub loop-index-preserved : goal.loop-index-preserved
loop-index-preserved c =
    let l = c.args.windows.now in
    let v = c.loop-index.windows in
    let i = c.loop-index.index in
    let inside : i < length c.args.placed.now = omega (arith, c.loop-index-test.true) in
    let within : i < length l.windows = omega (arith, inside, c.requires) in
    let shows = c.show.ensures.exact in (
      ap (λ (u : Layout Viewport). length u.windows) shows ∙ length-shows_at i _ v.windows ∙ c.loop-index.invariant.0,
      λ bs are. placed_on bs l v c.show.new.self i _ within (ap (λ xs. slice_get xs i) (sym are) ∙ slice_get-get_or c.args.placed.now i _ inside) (c.loop-index.invariant.1 bs are) shows,
    )
