use Rattle.std.proofs.Common.{◌≡◌, ◌<◌, ◌+◌, ◌++◌, [], ℕ, suc, List, length, take, drop, slice_index_or, slice_set, sym, ap, ◌∙◌, subst, arith, add-one}
use Rattle.std.proofs.lemmas.List.{get_or_default, length-append, length-set, length-take, length-drop}
use Rattle.rga_pages.specs.Pages.{Entries, entries_in, AreFilledPages}
use Rattle.rga_pages.proofs.PartLaws.{filled_set}
use Rattle.rga_pages.proofs.PlaceLaws.{spilled, filled_at}
use Rattle.rga_pages.proofs.putting.spill.Goals as goal

-- the page behind has what stood from the index on in front
behind : (c : goal.After-pages-2-1) → c.extend.new.self ≡ drop c.args.cut (slice_index_or c.args.pages.now.items c.args.page c.index.result.now) ++ slice_index_or c.args.pages.now.items (c.args.page + 1) c.index-2.result.now
behind c =
    c.in_ok-extend.ensures.ok
    ∙ ap (λ y. y ++ c.entries.result.now) (c.in_ok-tail.ensures.ok ∙ ap (λ y. drop c.args.cut y) c.index.ensures)
    ∙ ap (λ y. drop c.args.cut (slice_index_or c.args.pages.now.items c.args.page c.index.result.now) ++ y) (c.entries.ensures ∙ c.index-2.ensures)

pub returns-clause-flat : goal.returns-clause-flat
returns-clause-flat c =
    let ps : List Entries = c.args.pages.now.items in
    let p : ℕ = c.args.page in
    let f : Entries = c.index_mut-2.result.now in
    ap (λ y. entries_in (slice_set (slice_set ps (p + 1) c.extend.new.self) p y)) (c.cut.ensures ∙ ap (λ y. take c.args.cut y) c.index_mut-2.ensures.value)
    ∙ ap (λ x. entries_in (slice_set (slice_set ps (p + 1) x) p (take c.args.cut (slice_index_or (slice_set ps (p + 1) x) p f)))) (behind c)
    ∙ ap (λ n. entries_in (slice_set (slice_set ps n (drop c.args.cut (slice_index_or ps p c.index.result.now) ++ slice_index_or ps n c.index-2.result.now)) p (take c.args.cut (slice_index_or (slice_set ps n (drop c.args.cut (slice_index_or ps p c.index.result.now) ++ slice_index_or ps n c.index-2.result.now)) p f)))) (add-one p)
    ∙ spilled ps p c.args.cut c.index.result.now c.index-2.result.now f (subst (λ n. suc p < n) c.args.pages.now.ok.0 (omega (arith, c.requires.page)))

pub returns-clause-filled : goal.returns-clause-filled
returns-clause-filled c =
    let ps : List Entries = c.args.pages.now.items in
    let p : ℕ = c.args.page in
    let qs : List Entries = slice_set ps (p + 1) c.extend.new.self in
    let w : p < length ps = subst (λ n. p < n) c.args.pages.now.ok.0 (omega (arith, c.requires.page)) in
    let within : c.args.cut < length (slice_index_or ps p c.index.result.now) = subst (λ y. c.args.cut < length y) (get_or_default ps p [] c.index.result.now w) c.requires.second in
    let long : length c.extend.new.self ≡ length (drop c.args.cut (slice_index_or ps p c.index.result.now)) + length (slice_index_or ps (p + 1) c.index-2.result.now) = ap length (behind c) ∙ length-append (drop c.args.cut (slice_index_or ps p c.index.result.now)) (slice_index_or ps (p + 1) c.index-2.result.now) in
    let both : AreFilledPages qs = filled_set ps (p + 1) c.extend.new.self c.requires.filled (omega (arith, within, long, length-drop c.args.cut (slice_index_or ps p c.index.result.now))) in
    let there : p < length qs = subst (λ n. p < n) (sym (length-set ps (p + 1) c.extend.new.self)) w in
    let some : 0 < length c.index_mut-2.result.now = subst (λ y. 0 < length y) (sym c.index_mut-2.ensures.value) (filled_at qs p c.index_mut-2.result.now both there) in
    filled_set qs p c.cut.new.self both (subst (λ y. 0 < length y) (sym c.cut.ensures) (omega (arith, length-take c.args.cut c.index_mut-2.result.now, some, c.requires.first)))
