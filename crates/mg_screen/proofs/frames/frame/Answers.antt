use Rattle.mg_screen.specs.Frame.{pane_rows}
use Rattle.mg_screen.proofs.ScreenLaws.{rows_counted, length-pane_rows}
use Rattle.mg_screen.proofs.frames.frame.Goals as goal

pub returns-clause-count : goal.returns-clause-count
returns-clause-count c = rows_counted (pane_rows c.args.columns) _ _ _ c.args.screen.now (length-pane_rows c.args.columns) c.in_ok-all_rows.ensures c.requires.whole
