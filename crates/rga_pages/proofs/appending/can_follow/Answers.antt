use Rattle.std.proofs.Common.{◌≡◌, ◌-◌, ◌++◌, ℕ, List, length, slice_index_or, sym, ◌∙◌, subst, arith}
use Rattle.std.proofs.lemmas.List.{take_all, nil_from_length}
use Rattle.rga_ops.specs.Identifier.{Identifier}
use Rattle.rga_pages.specs.Pages.{Entries, entries_in, AreOrdered, AreBelow}
use Rattle.rga_pages.proofs.EntryLaws.{ordered_join}
use Rattle.rga_pages.proofs.PlaceLaws.{page_ordered, all_below}
use Rattle.rga_pages.proofs.appending.can_follow.Goals as goal

pub returns-then-count-eq0 : goal.returns-then-count-eq0
returns-then-count-eq0 c = λ _.
    subst (λ ps. AreOrdered (entries_in ps ++ c.args.entries.now)) (sym (nil_from_length c.args.pages.now.items (omega (arith, c.if-count-eq0.true, c.len-count.ensures, c.args.pages.now.ok.0)))) c.requires.ordered

pub is_behind-requires-clause-ordered : goal.is_behind-requires-clause-ordered
is_behind-requires-clause-ordered c =
    subst AreOrdered (sym (c.entries-last.ensures ∙ c.index.ensures))
    (page_ordered c.args.pages.now.items (c.len-count.result - 1) c.index.result.now c.requires.kept.ordered (omega (arith, c.if-count-eq0.false, c.len-count.ensures, c.args.pages.now.ok.0)))

pub returns : goal.returns
returns c = λ t.
    let ps : List Entries = c.args.pages.now.items in
    let p : ℕ = c.len-count.result - 1 in
    let page : Entries = c.entries-last.result.now in
    let id : Identifier = (slice_index_or c.args.entries.now 0 c.index-entries-0.result).0 in
    let is : page ≡ slice_index_or ps p c.index.result.now = c.entries-last.ensures ∙ c.index.ensures in
    ordered_join (entries_in ps) c.args.entries.now c.index-entries-0.result c.requires.kept.ordered c.requires.ordered
    (all_below ps p c.index.result.now c.requires.kept.ordered c.requires.kept.filled
    (omega (arith, c.if-count-eq0.false, c.len-count.ensures, c.args.pages.now.ok.0))
    (omega (arith, c.if-count-eq0.false, c.len-count.ensures, c.args.pages.now.ok.0))
    id
    (subst (AreBelow id) (take_all (length page) page (omega arith) ∙ is) (c.is_behind.ensures.below t)))
