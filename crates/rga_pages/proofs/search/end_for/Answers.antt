use Rattle.std.proofs.Common.{◌≡◌, ◌≤◌, ◌<◌, ◌+◌, ◌-◌, ℕ, false, List, length, take, slice_index_or, sym, ap, ◌∙◌, subst, arith, true≢false}
use Rattle.std.proofs.lemmas.List.{take_all, drop_all}
use Rattle.rga_pages.specs.Pages.{Entries, entries_in, AreOrdered, AreBelow, StartsAbove}
use Rattle.rga_pages.proofs.PlaceLaws.{page_ordered, page_below, filled_at}
use Rattle.rga_pages.proofs.SpotLaws.{spot_in}
use Rattle.rga_pages.proofs.search.end_for.Goals as goal

pub is_behind-requires-clause-ordered : goal.is_behind-requires-clause-ordered
is_behind-requires-clause-ordered c =
    subst AreOrdered (sym (c.entries-entries.ensures ∙ c.index.ensures))
    (page_ordered c.args.pages.now.items (c.len-count.result - 1) c.index.result.now c.requires.ordered (omega (arith, c.if-count-eq0.false, c.len-count.ensures, c.args.pages.now.ok.0)))

pub returns-then-is_behind-clause-spot : goal.returns-then-is_behind-clause-spot
returns-then-is_behind-clause-spot c =
    let ps : List Entries = c.args.pages.now.items in
    let p : ℕ = c.len-count.result - 1 in
    let d : Entries = c.index.result.now in
    let page : Entries = c.entries-entries.result.now in
    let w : p < length ps = omega (arith, c.if-count-eq0.false, c.len-count.ensures, c.args.pages.now.ok.0) in
    let is : page ≡ slice_index_or ps p d = c.entries-entries.ensures ∙ c.index.ensures in
    let here : AreBelow c.args.id (take (length page) (slice_index_or ps p d)) =
    subst (λ y. AreBelow c.args.id (take (length page) y)) is (c.is_behind.ensures.below c.if-is_behind.true) in
    let all : length (slice_index_or ps p d) ≤ length page = subst (λ y. length y ≤ length page) is (omega arith) in
    let last : length ps ≤ p + 1 = omega (arith, c.if-count-eq0.false, c.len-count.ensures, c.args.pages.now.ok.0) in
    spot_in ps p (length page) c.args.id d w false
    (page_below ps p d c.requires.ordered w c.args.id (filled_at ps p d c.requires.filled w) (subst (AreBelow c.args.id) (take_all (length page) (slice_index_or ps p d) all) here))
    (subst (StartsAbove c.args.id) (sym (ap entries_in (drop_all (p + 1) ps last))) tt)
    (subst (λ y. length page ≤ length y) is (omega arith))
    here
    (λ t. absurd (true≢false (sym t)))
    (λ f. subst (StartsAbove c.args.id) (sym (drop_all (length page) (slice_index_or ps p d) all)) tt)
