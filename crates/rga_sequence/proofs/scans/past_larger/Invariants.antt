use Rattle.std.proofs.Common.{◌≡◌, ◌≤◌, ◌+◌, ◌-◌, drop, length}
use Rattle.rga_sequence.specs.Blocks.{larger_at_front}
use Rattle.rga_sequence.proofs.scans.past_larger.Given as goal

abbrev pub invariant-loop-i : goal.invariant-loop-i
invariant-loop-i l = (l.i ≤ length l.entries) × (l.i + larger_at_front l.id (drop l.i l.entries) ≡ l.fn.from + larger_at_front l.id (drop l.fn.from l.entries))

abbrev pub decreases-loop-i : goal.decreases-loop-i
decreases-loop-i l = length l.entries - l.i
