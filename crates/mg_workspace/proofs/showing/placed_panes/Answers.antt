use Rattle.mg_workspace.proofs.ShownWindows.{taken_on}
use Rattle.mg_workspace.proofs.showing.placed_panes.Goals as goal

pub loop-index-preserved : goal.loop-index-preserved
loop-index-preserved g c = taken_on _ _ _ _ c.in_ok-pane.pane c.in_ok-pane.ensures c.loop-index.invariant c.in_ok-push_pane.ensures
