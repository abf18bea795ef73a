use Rattle.std.proofs.Common.{length, ◌-◌, ◌≡◌, ◌≤◌, ◌+◌, drop}
use Rattle.mg_live.specs.Changes.{common_front}
use Rattle.mg_live.proofs.changes.common_front.Given as goal

abbrev pub invariant-alike : goal.invariant-alike
invariant-alike l = record {
  exact : l.count + common_front (drop l.count l.old) (drop l.count l.new) ≡ common_front l.old l.new;
  old : l.count ≤ length l.old;
  new : l.count ≤ length l.new;
}

abbrev pub decreases-alike : goal.decreases-alike
decreases-alike l = length l.old - l.count
