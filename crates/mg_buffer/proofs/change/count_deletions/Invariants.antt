use Rattle.mg_buffer.proofs.Prelude.{◌≤◌}
use Rattle.mg_buffer.proofs.change.count_deletions.Given as goal

-- of the operations so far
abbrev pub invariant-loop-op : goal.invariant-loop-op
invariant-loop-op l = l.count ≤ l.op-index
