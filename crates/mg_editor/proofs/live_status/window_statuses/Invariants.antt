use Rattle.std.proofs.Common.{◌≡◌, map, take}
use Rattle.mg_editor.specs.LiveStatus.{rows_and_name, told_rows_and_name}
use Rattle.mg_editor.proofs.live_status.window_statuses.Given as goal

abbrev pub invariant-loop-window : goal.invariant-loop-window
invariant-loop-window g l = map told_rows_and_name l.statuses.items ≡ take l.window (map (rows_and_name l.work.buffers) l.work.windows.windows)
