use Rattle.std.proofs.Common.{◌≤◌, ◌-◌, take, length}
use Rattle.rga_pages.specs.Pages.{AreBelow}
use Rattle.rga_pages.proofs.search.go_on.Given as goal

-- what is before is below
abbrev pub invariant-loop-id : goal.invariant-loop-id
invariant-loop-id l = record {
  within : l.index ≤ length l.entries;
  below : AreBelow l.id (take l.index l.entries);
}

abbrev pub decreases-loop-id : goal.decreases-loop-id
decreases-loop-id l = length l.entries - l.index
