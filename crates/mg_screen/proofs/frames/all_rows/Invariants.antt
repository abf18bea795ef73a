use Rattle.std.proofs.Common.{◌≡◌, map, take, string_bytes}
use Rattle.std.specs.List.{flat_map}
use Rattle.mg_screen.specs.Sideways.{pane_rows_by}
use Rattle.mg_screen.specs.Written.{utf8}
use Rattle.mg_screen.proofs.frames.all_rows.Given as goal

abbrev pub invariant-loop-pane : goal.invariant-loop-pane
invariant-loop-pane l = map string_bytes l.rows.items ≡ utf8 (flat_map (pane_rows_by l.at_point l.columns) (take l.pane-index l.pane-items))
