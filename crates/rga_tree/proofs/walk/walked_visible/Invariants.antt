use Rattle.std.proofs.Common.{◌≡◌, ◌++◌, length, reverse}
use Rattle.rga_ops.specs.Order.{text}
use Rattle.rga_ops.specs.Places.{visible}
use Rattle.rga_tree.specs.Nodes.{content_of_nodes}
use Rattle.rga_tree.specs.Preceding.{beginning, visible_up_to}
use Rattle.rga_tree.proofs.PrecedingLaws.{Stands}
use Rattle.rga_tree.proofs.CountingLaws.{chars_up_to}
use Rattle.rga_tree.proofs.walk.walked_visible.Given as goal

-- what is still to come, and what is listed turned round, are all
abbrev pub invariant-loop-step : goal.invariant-loop-step
invariant-loop-step l = record {
  stands : Stands (content_of_nodes l.nodes.entries) l.at;
  elements : visible_up_to (content_of_nodes l.nodes.entries) l.at ++ reverse l.ids.items ≡ visible (content_of_nodes l.nodes.entries);
  characters : chars_up_to (content_of_nodes l.nodes.entries) l.at ++ reverse l.chars.items ≡ text (content_of_nodes l.nodes.entries);
}

abbrev pub decreases-loop-step : goal.decreases-loop-step
decreases-loop-step l = length (beginning (content_of_nodes l.nodes.entries) l.at)
