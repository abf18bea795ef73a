use Rattle.std.proofs.Common.{◌≡◌}
use Rattle.std.specs.BTreeSet.{contains}
use Rattle.rga_ops.specs.Identifier.{id_cmp}
use Rattle.rga_store.specs.Back.{without_noted, CanTakeBack}
use Rattle.rga_flat.specs.Undo.{IsGoingBack}
use Rattle.rga_flat.proofs.undoing.go_back.Given as goal

-- the steps that are left lead back to where all of them do
abbrev pub invariant-loop-step : goal.invariant-loop-step
invariant-loop-step l = record {
  limit : l.records.limit ≡ l.initial.records.limit;
  left : CanTakeBack l.steps.items l.records.content;
  start : without_noted l.steps.items l.records.content ≡ without_noted l.initial.steps.items l.initial.records.content;
  going : IsGoingBack l.initial.records.content (without_noted l.initial.steps.items l.initial.records.content) l.records.content l.sequence l.waiting (contains id_cmp l.done);
}

abbrev pub decreases-loop-step : goal.decreases-loop-step
decreases-loop-step l = goal.left-loop-step l
