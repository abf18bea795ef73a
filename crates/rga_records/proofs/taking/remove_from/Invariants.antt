use Rattle.std.proofs.Common.{◌≡◌, length, take, drop}
use Rattle.rga_store.specs.Back.{without_noted, CanTakeBack}
use Rattle.rga_records.proofs.taking.remove_from.Given as goal

-- the steps from one on lead where all of them do
abbrev pub invariant-loop-steps : goal.invariant-loop-steps
invariant-loop-steps l = record {
  back : CanTakeBack l.steps.items l.records.content;
  gone : without_noted (drop l.from l.steps.items) l.records.content ≡ without_noted (drop l.from l.initial.steps.items) l.initial.records.content;
  kept : take l.from l.steps.items ≡ take l.from l.initial.steps.items;
  limit : l.records.limit ≡ l.initial.records.limit;
}

abbrev pub decreases-loop-steps : goal.decreases-loop-steps
decreases-loop-steps l = length l.steps.items
