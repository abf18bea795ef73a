use Rattle.std.proofs.Common.{◌-◌}
use Rattle.rga_ops.specs.Content.{clock_of}
use Rattle.rga_tree.specs.Nodes.{content_of_nodes}
use Rattle.rga_tree.proofs.PrecedingLaws.{IsDescent}
use Rattle.rga_tree.proofs.preceding.last_under.Given as goal

-- what stands under the element and further back stands under the last one so far
abbrev pub invariant-loop-child : goal.invariant-loop-child
invariant-loop-child l = IsDescent (content_of_nodes l.nodes.entries) l.fn.id l.last

abbrev pub decreases-loop-child : goal.decreases-loop-child
decreases-loop-child l = clock_of (content_of_nodes l.nodes.entries) - l.last.counter
