use Rattle.std.proofs.Common.{◌≡◌, ◌<◌, ◌-◌, true, List, length, slice_index_or, sym, ap, ◌∙◌, subst, arith}
use Rattle.std.specs.Ordering.{is_gt, is_lt}
use Rattle.rga_ops.specs.Identifier.{id_cmp}
use Rattle.rga_pages.specs.Pages.{Entries}
use Rattle.rga_pages.proofs.SpotLaws.{spot_between}
use Rattle.rga_pages.proofs.search.gap_at.Goals as goal

pub returns-then-is_less-clause-spot : goal.returns-then-is_less-clause-spot
returns-then-is_less-clause-spot c =
    let ps : List Entries = c.args.pages.now.items in
    let is : c.entries-entries.result.now ≡ slice_index_or ps c.args.last.page c.index.result.now = c.entries-entries.ensures ∙ c.index.ensures in
    let before = c.index-entries-index.result in
    let behind = c.index-entries-index-then-is_below.result in
    spot_between ps c.args.last.page c.args.last.index c.args.id c.index.result.now (omega (arith, c.if-last-len.false, c.len.ensures, c.args.pages.now.ok.0))
    (c.args.last.index - 1) (omega (arith, c.if-index-eq0.false)) (subst (λ y. c.args.last.index < length y) is (omega (arith, c.if-index-entries.false))) before behind
    (subst (λ y. is_gt (id_cmp c.args.id (slice_index_or y (c.args.last.index - 1) before).0) ≡ true) is (ap (λ e. is_gt (id_cmp c.args.id e.0)) (sym c.index-entries-index.is) ∙ sym c.is_below.ensures ∙ c.if-is_below.true))
    (subst (λ y. is_lt (id_cmp c.args.id (slice_index_or y c.args.last.index behind).0) ≡ true) is (sym c.is_less.ensures ∙ c.if-is_less.true))
    c.requires
