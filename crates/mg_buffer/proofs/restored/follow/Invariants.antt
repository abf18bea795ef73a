use Rattle.mg_buffer.proofs.Prelude.{◌≡◌, ◌+◌, ◌-◌, greatest_counter, latest, old_ones}
use Rattle.mg_buffer.proofs.restored.follow.Given as goal

abbrev pub invariant-loop-next : goal.invariant-loop-next
invariant-loop-next l = latest l.restored.entries l.last ≡ latest l.restored.entries l.fn.id

abbrev pub decreases-loop-next : goal.decreases-loop-next
decreases-loop-next l = greatest_counter (old_ones l.restored.entries) + 1 - l.last.counter
