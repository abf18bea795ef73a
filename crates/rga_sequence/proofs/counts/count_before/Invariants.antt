use Rattle.std.proofs.Common.{◌≡◌, ◌≤◌, ◌-◌, take}
use Rattle.rga_sequence.specs.Blocks.{flat}
use Rattle.rga_sequence.specs.Entries.{visible_count}
use Rattle.rga_sequence.proofs.counts.count_before.Given as goal

abbrev pub invariant-loop-next : goal.invariant-loop-next
invariant-loop-next l = (l.next ≤ l.fn.block) × (l.count ≡ visible_count (flat (take l.next l.blocks.items)))

abbrev pub decreases-loop-next : goal.decreases-loop-next
decreases-loop-next l = l.fn.block - l.next
