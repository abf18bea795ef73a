use Rattle.std.proofs.Common.{◌≡◌, ◌+◌, take, sum_by}
use Rattle.mg_screen.proofs.cursors.rows_above.Given as goal

abbrev pub invariant-loop-pane : goal.invariant-loop-pane
invariant-loop-pane l = l.rows ≡ sum_by (λ p. p.height + 1) (take l.pane-index l.pane-items)
