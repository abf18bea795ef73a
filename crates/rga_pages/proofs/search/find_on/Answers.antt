use Rattle.std.proofs.Common.{◌≡◌, ◌<◌, ◌++◌, false, List, length, take, drop, slice_index_or, sym, ◌∙◌, subst, arith}
use Rattle.std.specs.Ordering.{is_lt}
use Rattle.rga_ops.specs.Identifier.{id_cmp}
use Rattle.rga_pages.specs.Pages.{Entries, entries_in, AreOrdered, AreBelow, StartsAbove, StartsAt}
use Rattle.rga_pages.proofs.EntryLaws.{below_front, below_back}
use Rattle.rga_pages.proofs.PlaceLaws.{page_ordered, up_to}
use Rattle.rga_pages.proofs.SpotLaws.{spot_on}
use Rattle.rga_pages.proofs.search.find_on.Goals as goal

pub go_on-index-requires-clause-ordered : goal.go_on-index-requires-clause-ordered
go_on-index-requires-clause-ordered c =
    subst AreOrdered (sym (c.entries-entries.ensures ∙ c.index.ensures))
    (page_ordered c.args.pages.now.items c.args.last.page c.index.result.now c.requires (omega (arith, c.if-last-len.false, c.len.ensures, c.args.pages.now.ok.0)))

pub go_on-index-requires-clause-below : goal.go_on-index-requires-clause-below
go_on-index-requires-clause-below c =
    let ps : List Entries = c.args.pages.now.items in
    let is : c.entries-entries.result.now ≡ slice_index_or ps c.args.last.page c.index.result.now = c.entries-entries.ensures ∙ c.index.ensures in
    let before : AreBelow c.args.id (entries_in (take c.args.last.page ps) ++ take c.args.last.index (slice_index_or ps c.args.last.page c.index.result.now)) =
    up_to ps c.args.last.page c.index.result.now c.requires (omega (arith, c.if-last-len.false, c.len.ensures, c.args.pages.now.ok.0)) c.args.id c.args.last.index c.index-entries-last.result
    (subst (λ y. c.args.last.index < length y) is (omega (arith, c.if-last-entries.false)))
    (subst (λ y. is_lt (id_cmp c.args.id (slice_index_or y c.args.last.index c.index-entries-last.result).0) ≡ false) is
    (sym c.is_less.ensures ∙ c.if-is_less.false)) in
    subst (λ y. AreBelow c.args.id (take c.args.last.index y)) (sym (c.entries-entries.ensures ∙ c.index.ensures))
    (below_back c.args.id (entries_in (take c.args.last.page ps)) (take c.args.last.index (slice_index_or ps c.args.last.page c.index.result.now)) before)

pub returns-clause-spot : goal.returns-clause-spot
returns-clause-spot c =
    let ps : List Entries = c.args.pages.now.items in
    let is : c.entries-entries.result.now ≡ slice_index_or ps c.args.last.page c.index.result.now = c.entries-entries.ensures ∙ c.index.ensures in
    let before : AreBelow c.args.id (entries_in (take c.args.last.page ps) ++ take c.args.last.index (slice_index_or ps c.args.last.page c.index.result.now)) =
    up_to ps c.args.last.page c.index.result.now c.requires (omega (arith, c.if-last-len.false, c.len.ensures, c.args.pages.now.ok.0)) c.args.id c.args.last.index c.index-entries-last.result
    (subst (λ y. c.args.last.index < length y) is (omega (arith, c.if-last-entries.false)))
    (subst (λ y. is_lt (id_cmp c.args.id (slice_index_or y c.args.last.index c.index-entries-last.result).0) ≡ false) is
    (sym c.is_less.ensures ∙ c.if-is_less.false)) in
    spot_on ps c.args.last.page c.go_on-index.result c.args.id c.index.result.now (omega (arith, c.if-last-len.false, c.len.ensures, c.args.pages.now.ok.0)) c.is_at-found.result
    (below_front c.args.id (entries_in (take c.args.last.page ps)) (take c.args.last.index (slice_index_or ps c.args.last.page c.index.result.now)) before)
    (subst (λ y. c.go_on-index.result < length y) is (omega (arith, c.if-index-entries.false)))
    (subst (λ y. AreBelow c.args.id (take c.go_on-index.result y)) is c.go_on-index.ensures.below)
    (λ t. subst (λ y. StartsAt c.args.id (drop c.go_on-index.result y)) is (c.is_at-found.ensures.there t))
    (λ f. subst (λ y. StartsAbove c.args.id (drop c.go_on-index.result y)) is (c.is_at-found.ensures.absent f))
