use Rattle.std.proofs.Common.{◌≡◌, drop}
use Rattle.std.specs.List.{filter_map}
use Rattle.rga_pages.specs.Pages.{entries_in}
use Rattle.rga_records.specs.Records.{content_of_records, first_conflicting, insertion_of_record}
use Rattle.rga_records.proofs.merging.first_conflict.Given as goal

-- what is left has the first conflict of all
abbrev pub invariant-loop-page : goal.invariant-loop-page
invariant-loop-page l =
    first_conflicting (content_of_records l.own) (filter_map insertion_of_record (entries_in (drop l.page-index l.pages.items))) ≡ first_conflicting (content_of_records l.own) (filter_map insertion_of_record (entries_in l.pages.items))
