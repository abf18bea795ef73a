use Rattle.std.proofs.Common.{◌≡◌, take, length}
use Rattle.rga_pages.specs.Pages.{entries_in}
use Rattle.rga_records.specs.Links.{AreHeads, AreLinks}
use Rattle.rga_records.proofs.linking.links_of.Given as goal

-- the elements of the pages so far are linked, and the first node of each is noted
abbrev pub invariant-loop-page : goal.invariant-loop-page
invariant-loop-page l =
    (length l.heads.items ≡ l.page) × AreHeads l.pages.items l.heads.items × AreLinks (entries_in (take l.page l.pages.items)) l.links.shown.items l.links.next.items
