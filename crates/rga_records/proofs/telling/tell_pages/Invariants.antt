use Rattle.std.proofs.Common.{take}
use Rattle.rga_pages.specs.Pages.{entries_in}
use Rattle.rga_records.proofs.ToldLaws.{told_deletions, told_insertions}
use Rattle.rga_records.proofs.telling.tell_pages.Given as goal

-- what the pages so far tell was heard
abbrev pub invariant-loop-page : goal.invariant-loop-page
invariant-loop-page g l =
    g.L.Listener.hears l.initial.of_insertions (told_insertions (entries_in (take l.page-index l.pages.items))) l.of_insertions
    × g.M.Listener.hears l.initial.of_deletions (told_deletions (entries_in (take l.page-index l.pages.items))) l.of_deletions
