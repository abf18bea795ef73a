use Rattle.std.proofs.Common.{◌≡◌}
use Rattle.rga_flat.proofs.placing.note_entries.Given as goal

-- the records stand for the same
abbrev pub invariant-loop-entry : goal.invariant-loop-entry
invariant-loop-entry l = l.records ≡ l.initial.records
