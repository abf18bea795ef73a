use Rattle.std.proofs.Common.{◌≡◌, ◌+◌, ◌≤◌, drop, filter, length}
use Rattle.mgr_show.specs.Tallies.{is_insertion}
use Rattle.mgr_show.proofs.tallies.count_insertions.Given as goal

abbrev pub invariant-loop-op : goal.invariant-loop-op
invariant-loop-op l = record {
  counted : l.count + length (filter is_insertion (drop l.op-index l.ops)) ≡ length (filter is_insertion l.ops);
  few : l.count ≤ l.op-index;
}
