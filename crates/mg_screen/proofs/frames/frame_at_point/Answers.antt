use Rattle.mg_screen.specs.Sideways.{pane_rows_at_point}
use Rattle.mg_screen.proofs.ScreenLaws.{rows_counted, length-pane_rows_at_point}
use Rattle.mg_screen.proofs.frames.frame_at_point.Goals as goal

pub returns-clause-count : goal.returns-clause-count
returns-clause-count c =
    rows_counted (pane_rows_at_point c.args.columns) _ _ _ c.args.screen.now (length-pane_rows_at_point c.args.columns) c.in_ok-all_rows.ensures c.requires.whole
