use Rattle.std.proofs.Common.{◌≡◌, ◌<◌, ◌+◌, List, length, slice_set, sym, ap, ◌∙◌, subst, arith}
use Rattle.std.specs.Prelude.{remove}
use Rattle.std.proofs.lemmas.List.{get_or_default}
use Rattle.std.proofs.lemmas.List.Edits.{length-remove}
use Rattle.std.specs.Map.{remove_entry}
use Rattle.rga_ops.proofs.IdentifierLaws.{is}
use Rattle.rga_pages.specs.Pages.{Entries, entries_in, AreFilledPages}
use Rattle.rga_pages.proofs.PartLaws.{filled_set, filled_remove}
use Rattle.rga_pages.proofs.SpotLaws.{index_found, remove_spot, remove_page, removed_pages}
use Rattle.rga_pages.proofs.removing.remove_at.Goals as goal

page_gone_is : (c : goal.After-drop-remove) → entries_in c.remove.new.self.items ≡ remove_entry (is c.args.id) (entries_in c.args.pages.now.items)
page_gone_is c =
    ap entries_in c.remove.ensures.items
    ∙ remove_page c.args.pages.now.items c.args.at.page c.args.at.index c.args.id c.index.result.now (subst (λ n. c.args.at.page < n) c.args.pages.now.ok.0 c.requires.page) c.requires.spot
    (ap length (sym (c.entries.ensures ∙ c.index.ensures)) ∙ c.if-entries-eq1.true)

pub returns-then-entries-eq1-clause-gone : goal.returns-then-entries-eq1-clause-gone
returns-then-entries-eq1-clause-gone c = page_gone_is c

pub returns-then-entries-eq1-clause-kept : goal.returns-then-entries-eq1-clause-kept
returns-then-entries-eq1-clause-kept c =
    removed_pages c.args.pages.now.items c.remove.new.self.items c.args.id c.requires.kept (page_gone_is c)
    (subst AreFilledPages (sym c.remove.ensures.items) (filled_remove c.args.pages.now.items c.args.at.page c.requires.kept.filled))

gone_is : (c : goal.After-pages-1) → entries_in (slice_set c.args.pages.now.items c.args.at.page c.remove-2.new.self) ≡ remove_entry (is c.args.id) (entries_in c.args.pages.now.items)
gone_is c =
    ap (λ y. entries_in (slice_set c.args.pages.now.items c.args.at.page y)) (c.remove-2.ensures ∙ ap (λ y. remove y c.args.at.index) c.index_mut.ensures.value)
    ∙ remove_spot c.args.pages.now.items c.args.at.page c.args.at.index c.args.id c.index_mut.result.now (subst (λ n. c.args.at.page < n) c.args.pages.now.ok.0 c.requires.page) c.requires.spot

pub returns-clause-gone : goal.returns-clause-gone
returns-clause-gone c = gone_is c

pub returns-clause-kept : goal.returns-clause-kept
returns-clause-kept c =
    let ps : List Entries = c.args.pages.now.items in
    let w : c.args.at.page < length ps = subst (λ n. c.args.at.page < n) c.args.pages.now.ok.0 c.requires.page in
    let old : Entries = c.index_mut.result.now in
    let there : c.args.at.index < length old = subst (λ y. c.args.at.index < length y) (sym c.index_mut.ensures.value) (index_found ps c.args.at.page c.args.at.index c.args.id old w c.requires.spot) in
    let same : c.entries.result.now ≡ old = c.entries.ensures ∙ c.index.ensures ∙ get_or_default ps c.args.at.page c.index.result.now old w ∙ sym c.index_mut.ensures.value in
    let less : length (remove old c.args.at.index) + 1 ≡ length old = length-remove old c.args.at.index there in
    removed_pages ps (slice_set ps c.args.at.page c.remove-2.new.self) c.args.id c.requires.kept (gone_is c)
    (filled_set ps c.args.at.page c.remove-2.new.self c.requires.kept.filled
    (subst (λ y. 0 < length y) (sym c.remove-2.ensures) (omega (arith, less, ap length same, c.if-entries-eq1.false, there))))
