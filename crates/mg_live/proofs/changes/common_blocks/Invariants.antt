use Rattle.std.proofs.Common.{◌≡◌, ◌≤◌, ◌+◌, ◌-◌, length, drop}
use Rattle.mg_live.specs.Changes.{common_front}
use Rattle.mg_live.proofs.changes.common_blocks.Given as goal

abbrev pub invariant-blocks-2 : goal.invariant-blocks-2
invariant-blocks-2 l = record {
  exact : l.count + common_front (drop l.count l.old) (drop l.count l.new) ≡ common_front l.old l.new;
  old : l.count ≤ length l.old;
  new : l.count ≤ length l.new;
}

abbrev pub decreases-blocks-2 : goal.decreases-blocks-2
decreases-blocks-2 l = length l.old - l.count
