use Rattle.std.proofs.Common.{◌≡◌}
use Rattle.rga_store.specs.Back.{without_noted, CanTakeBack}
use Rattle.rga_tree.proofs.tree_store.TreeStore.go_back.Given as goal

-- the steps that are left lead back to where all of them do
abbrev pub invariant-loop-step : goal.invariant-loop-step
invariant-loop-step l = record {
  limit : l.self.limit ≡ l.initial.self.limit;
  left : CanTakeBack l.steps.items l.self.content;
  start : without_noted l.steps.items l.self.content ≡ without_noted l.initial.steps.items l.initial.self.content;
}

abbrev pub decreases-loop-step : goal.decreases-loop-step
decreases-loop-step l = goal.left-loop-step l
