use Rattle.std.proofs.Common.{◌≡◌, drop}
use Rattle.std.specs.List.{filter_map}
use Rattle.rga_records.specs.Records.{content_of_records, first_conflicting, insertion_of_record}
use Rattle.rga_records.proofs.merging.first_conflict_in.Given as goal

-- what is left has the first conflict of all
abbrev pub invariant-loop-id : goal.invariant-loop-id
invariant-loop-id l =
    first_conflicting (content_of_records l.own) (filter_map insertion_of_record (drop l.id-index l.entries)) ≡ first_conflicting (content_of_records l.own) (filter_map insertion_of_record l.entries)
