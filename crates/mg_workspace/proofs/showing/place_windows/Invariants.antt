use Rattle.std.proofs.Common.{◌≡◌, ◌++◌, List, length, map, take, drop}
use Rattle.mg_buffer.specs.OpenState.{OpenState}
use Rattle.mg_screen.specs.Layout.{all_shown, layout}
use Rattle.mg_workspace.specs.Showing.{placed_windows, placed_window}
use Rattle.mg_workspace.proofs.showing.place_windows.Given as goal

abbrev pub invariant-loop-index : goal.invariant-loop-index
invariant-loop-index l =
    let old = l.fn.windows in (length l.windows.windows ≡ length old.windows)
    × ((bs : List OpenState) → l.placed ≡ all_shown (placed_windows bs old).windows
    → l.windows ≡ layout (map (placed_window bs) (take l.index old.windows) ++ drop l.index old.windows) old.current)
