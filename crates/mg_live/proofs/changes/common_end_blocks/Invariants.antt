use Rattle.std.proofs.Common.{◌≡◌, ◌≤◌, ◌+◌, ◌-◌, length, drop, reverse}
use Rattle.mg_live.specs.Changes.{common_front, common_end}
use Rattle.mg_live.proofs.changes.common_end_blocks.Given as goal

abbrev pub invariant-blocks-2 : goal.invariant-blocks-2
invariant-blocks-2 l = record {
  exact : l.count + common_front (drop l.count (reverse l.old)) (drop l.count (reverse l.new)) ≡ common_end l.old l.new;
  old : l.count ≤ length l.old;
  new : l.count ≤ length l.new;
}

abbrev pub decreases-blocks-2 : goal.decreases-blocks-2
decreases-blocks-2 l = length l.old - l.count
