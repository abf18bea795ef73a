use Rattle.std.proofs.Common.{◌≡◌, take}
use Rattle.mg_screen.specs.Layout.{all_shown}
use Rattle.mg_workspace.specs.Showing.{placed_windows}
use Rattle.mg_workspace.proofs.showing.placed_viewports.Given as goal

abbrev pub invariant-loop-index : goal.invariant-loop-index
invariant-loop-index g l = l.placed.items ≡ take l.index (all_shown (placed_windows l.buffers.all l.windows).windows)
