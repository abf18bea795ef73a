use Rattle.std.proofs.Common.{◌≡◌, ℕ, ◌<◌, List, [], ◌∷◌, length, slice_index_or, refl, sym, ap, ◌∙◌, subst}
use Rattle.rga_pages.specs.Pages.{entries_in}
use Rattle.rga_records.specs.Records.{Entries}
use Rattle.rga_records.proofs.ToldLaws.{told_deletions, told_insertions, told_more, heard_as, page_deletions_split, page_insertions_split, one_page}
use Rattle.rga_records.proofs.telling.tell_pages.Goals as goal

pub loop-page-preserved : goal.loop-page-preserved
loop-page-preserved g c =
    let ps : List Entries = c.args.pages.now.items in
    let i : ℕ = c.loop-page.page-index in
    let page : Entries = c.page-item.result in
    let within : i < length ps = subst (λ xs. i < length xs) c.deref-page-items.ensures.value c.loop-page-test.true in
    let is : page ≡ slice_index_or ps i page = c.page-item.is ∙ ap (λ xs. slice_index_or xs i page) c.deref-page-items.ensures.value in
    let told : entries_in (page ∷ []) ≡ c.entries.result.now = one_page page ∙ sym c.entries.ensures in (
      told_more g.L.Listener.hears g.L.Listener.hears_on (λ qs. told_insertions (entries_in qs)) page_insertions_split ps i page within is c.args.of_insertions.now c.loop-page.of_insertions _ c.loop-page.invariant.0
          (heard_as g.L.Listener.hears c.loop-page.of_insertions _ _ _ (told_insertions (entries_in (page ∷ []))) (ap told_insertions told) refl c.in_ok-tell_entries.ensures.insertions),
      told_more g.M.Listener.hears g.M.Listener.hears_on (λ qs. told_deletions (entries_in qs)) page_deletions_split ps i page within is c.args.of_deletions.now c.loop-page.of_deletions _ c.loop-page.invariant.1
          (heard_as g.M.Listener.hears c.loop-page.of_deletions _ _ _ (told_deletions (entries_in (page ∷ []))) (ap told_deletions told) refl c.in_ok-tell_entries.ensures.deletions),
    )
