use Rattle.rga_pages.specs.Pages.{entries_before}
use Rattle.rga_records.specs.Links.{AreLinks}
use Rattle.rga_records.proofs.linking.link_page.Given as goal

-- the elements so far are linked in
abbrev pub invariant-loop-index : goal.invariant-loop-index
invariant-loop-index l = AreLinks (entries_before l.pages.items l.page l.index) l.links.shown.items l.links.next.items
