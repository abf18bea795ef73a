use Rattle.std.proofs.Common.{◌≤◌, ◌<◌, ◌-◌, take, drop, length}
use Rattle.rga_pages.specs.Pages.{entries_in, AreBelow, StartsAbove}
use Rattle.rga_pages.proofs.search.page_of.Given as goal

-- the page is not before the first of those that are left, and not behind the last
abbrev pub invariant-loop-high : goal.invariant-loop-high
invariant-loop-high l = record {
  some : l.low < l.high;
  within : l.high ≤ length l.pages.items;
  below : AreBelow l.id (entries_in (take l.low l.pages.items));
  above : StartsAbove l.id (entries_in (drop l.high l.pages.items));
}

abbrev pub decreases-loop-high : goal.decreases-loop-high
decreases-loop-high l = l.high - l.low
