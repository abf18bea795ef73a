use Rattle.std.proofs.Common.{◌≡◌, ◌≤◌, ◌-◌, drop, length}
use Rattle.rga_sequence.specs.Entries.{has}
use Rattle.rga_sequence.proofs.scans.index_of.Given as goal

abbrev pub invariant-loop-i : goal.invariant-loop-i
invariant-loop-i l = (l.i ≤ length l.entries) × (has l.id (drop l.i l.entries) ≡ has l.id l.entries)

abbrev pub decreases-loop-i : goal.decreases-loop-i
decreases-loop-i l = length l.entries - l.i
