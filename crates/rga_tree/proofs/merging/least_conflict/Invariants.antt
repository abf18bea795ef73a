use Rattle.rga_ops.specs.ListAnswer.{is_conflict}
use Rattle.rga_tree.specs.Nodes.{content_of_nodes}
use Rattle.rga_tree.proofs.MergingLaws.{IsLeastSoFar}
use Rattle.rga_tree.proofs.merging.least_conflict.Given as goal

abbrev pub invariant-loop-i : goal.invariant-loop-i
invariant-loop-i l = IsLeastSoFar (is_conflict (content_of_nodes l.others.entries) (content_of_nodes l.own.entries)) l.others.entries l.i l.least
