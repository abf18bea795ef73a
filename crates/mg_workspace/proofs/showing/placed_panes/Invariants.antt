use Rattle.std.proofs.Common.{◌≡◌, take}
use Rattle.mg_workspace.specs.Showing.{placed_windows, panes_of}
use Rattle.mg_workspace.proofs.showing.placed_panes.Given as goal

abbrev pub invariant-loop-index : goal.invariant-loop-index
invariant-loop-index g l = l.panes.items ≡ take l.index (panes_of l.buffers.all (placed_windows l.buffers.all l.windows))
