use Rattle.std.proofs.Common.{true, take, sym, subst}
use Rattle.std.proofs.lemmas.Bool.{not-true}
use Rattle.rga_pages.specs.Pages.{entries_in, AreBelow}
use Rattle.rga_pages.proofs.search.is_past.Goals as goal

pub returns-then-page-eq0 : goal.returns-then-page-eq0
returns-then-page-eq0 c = λ t. subst (λ p. AreBelow c.args.id (entries_in (take p c.args.pages.now.items))) (sym c.if-page-eq0.true) tt

pub returns : goal.returns
returns c = λ t. c.starts_above.ensures.below (not-true c.starts_above.result t)
