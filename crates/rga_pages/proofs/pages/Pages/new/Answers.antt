use Rattle.std.proofs.Common.{sym, subst}
use Rattle.rga_pages.specs.Pages.{ArePages}
use Rattle.rga_pages.proofs.SpotLaws.{no_pages}
use Rattle.rga_pages.proofs.pages.Pages.new.Goals as goal

pub invariant_of-result : goal.invariant_of-result
invariant_of-result c = subst ArePages (sym c.new.ensures.items) no_pages
