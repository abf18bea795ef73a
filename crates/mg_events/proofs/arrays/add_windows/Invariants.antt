use Rattle.std.proofs.Common.{drop, map}
use Rattle.mg_events.specs.StatusText.{window_json}
use Rattle.mg_events.proofs.AddedLemmas.{Left}
use Rattle.mg_events.proofs.arrays.add_windows.Given as goal

abbrev pub invariant-loop-window : goal.invariant-loop-window
invariant-loop-window l = Left l.initial.writer l.writer (map window_json l.windows) (map window_json (drop l.window-index l.windows))
