use Rattle.std.proofs.Common.{◌≡◌, ◌≤◌, ◌+◌, drop, length}
use Rattle.rga_records.specs.Records.{content_of_records, unknown_ids}
use Rattle.rga_records.proofs.merging.count_in.Given as goal

-- what is counted and what is left is all that is not known
abbrev pub invariant-loop-id : goal.invariant-loop-id
invariant-loop-id l = record {
  within : l.count ≤ l.id-index;
  counted : l.count + length (unknown_ids (content_of_records l.own) (drop l.id-index l.entries)) ≡ length (unknown_ids (content_of_records l.own) l.entries);
}
