use Rattle.std.proofs.Common.{◌≡◌, ◌≤◌, length, take}
use Rattle.rga_tree.specs.Nodes.{content_of_nodes}
use Rattle.rga_tree.proofs.MergingLaws.{unknown_ids}
use Rattle.rga_tree.proofs.merging.count_unknown.Given as goal

abbrev pub invariant-loop-i : goal.invariant-loop-i
invariant-loop-i l = record {
  counted : l.count ≡ length (unknown_ids (content_of_nodes l.own.entries) (take l.i l.others.entries));
  within : l.count ≤ l.i;
}
