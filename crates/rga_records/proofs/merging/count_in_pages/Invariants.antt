use Rattle.std.proofs.Common.{◌≡◌, ◌+◌, drop, length}
use Rattle.rga_pages.specs.Pages.{entries_in}
use Rattle.rga_records.specs.Records.{content_of_records, unknown_ids}
use Rattle.rga_records.proofs.merging.count_in_pages.Given as goal

-- what is counted and what is left is all that is not known
abbrev pub invariant-loop-page : goal.invariant-loop-page
invariant-loop-page l =
    l.count + length (unknown_ids (content_of_records l.own) (entries_in (drop l.page-index l.pages.items))) ≡ length (unknown_ids (content_of_records l.own) (entries_in l.pages.items))
