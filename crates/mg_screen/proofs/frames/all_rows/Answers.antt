use Rattle.mg_screen.specs.Sideways.{pane_rows_by}
use Rattle.mg_screen.proofs.ScreenLaws.{pane_on}
use Rattle.mg_screen.proofs.frames.all_rows.Goals as goal

pub loop-pane-preserved : goal.loop-pane-preserved
loop-pane-preserved c = pane_on (pane_rows_by c.args.at_point c.args.columns) _ _ c.pane-item.result _ _ c.loop-pane-test.true c.pane-item.is c.in_ok-push_pane_by.ensures c.loop-pane.invariant
