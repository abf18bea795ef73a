use Rattle.std.proofs.Common.{◌≡◌, ◌++◌, map, take, drop}
use Rattle.mg_screen.specs.Layout.{layout}
use Rattle.mg_workspace.specs.Viewports.{window_without}
use Rattle.mg_workspace.proofs.choosing.leave.Given as goal

abbrev pub invariant-loop-index : goal.invariant-loop-index
invariant-loop-index l = let old = l.fn.windows in l.windows ≡ layout (map (window_without l.gone) (take l.index old.windows) ++ drop l.index old.windows) old.current
