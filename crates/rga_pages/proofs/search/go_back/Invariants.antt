use Rattle.std.proofs.Common.{◌≤◌, length}
use Rattle.rga_pages.proofs.search.go_back.Given as goal

abbrev pub invariant-loop-id : goal.invariant-loop-id
invariant-loop-id l = l.index ≤ length l.entries

abbrev pub decreases-loop-id : goal.decreases-loop-id
decreases-loop-id l = l.index
