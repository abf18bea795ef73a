use Rattle.std.proofs.Common.{◌≡◌, ◌≤◌, ◌<◌, length, take, drop, slice_index_or, sym, ◌∙◌, subst}
use Rattle.rga_pages.specs.Pages.{AreOrdered, AreBelow, StartsAbove, StartsAt}
use Rattle.rga_pages.proofs.PlaceLaws.{page_ordered}
use Rattle.rga_pages.proofs.SpotLaws.{spot_in}
use Rattle.rga_pages.proofs.search.find_in.Goals as goal

pub go_back-from-requires : goal.go_back-from-requires
go_back-from-requires c =
    subst AreOrdered (sym (c.entries-entries.ensures ∙ c.index.ensures))
    (page_ordered c.args.pages.now.items c.args.page c.index.result.now c.requires.ordered (subst (λ n. c.args.page < n) c.args.pages.now.ok.0 c.requires.within))

pub go_on-index-requires-clause-ordered : goal.go_on-index-requires-clause-ordered
go_on-index-requires-clause-ordered c =
    subst AreOrdered (sym (c.entries-entries.ensures ∙ c.index.ensures))
    (page_ordered c.args.pages.now.items c.args.page c.index.result.now c.requires.ordered (subst (λ n. c.args.page < n) c.args.pages.now.ok.0 c.requires.within))

pub returns-clause-spot : goal.returns-clause-spot
returns-clause-spot c =
    let is : c.entries-entries.result.now ≡ slice_index_or c.args.pages.now.items c.args.page c.index.result.now = c.entries-entries.ensures ∙ c.index.ensures in
    spot_in c.args.pages.now.items c.args.page c.go_on-index.result c.args.id c.index.result.now (subst (λ n. c.args.page < n) c.args.pages.now.ok.0 c.requires.within) c.is_at-found.result
    c.requires.below c.requires.above
    (subst (λ y. c.go_on-index.result ≤ length y) is c.go_on-index.ensures.within)
    (subst (λ y. AreBelow c.args.id (take c.go_on-index.result y)) is c.go_on-index.ensures.below)
    (λ t. subst (λ y. StartsAt c.args.id (drop c.go_on-index.result y)) is (c.is_at-found.ensures.there t))
    (λ f. subst (λ y. StartsAbove c.args.id (drop c.go_on-index.result y)) is (c.is_at-found.ensures.absent f))
