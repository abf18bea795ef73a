use Rattle.std.proofs.Common.{◌≡◌, ℕ, ◌+◌, ◌<◌, ◌++◌, List, length, drop, slice_index_or, sym, ap, ◌∙◌, subst, add-one}
use Rattle.std.specs.List.{filter_map}
use Rattle.std.proofs.lemmas.List.Elements.{filter_map-append}
use Rattle.rga_ops.specs.Content.{Content}
use Rattle.rga_pages.specs.Pages.{entries_in}
use Rattle.rga_pages.proofs.PlaceLaws.{rest_of}
use Rattle.rga_records.specs.Records.{Entries, content_of_records, first_conflicting, insertion_of_record}
use Rattle.rga_records.proofs.MergingLaws.{none_first, some_first}
use Rattle.rga_records.proofs.SortedRecordLaws.{Insertions}
use Rattle.rga_records.proofs.merging.first_conflict.Goals as goal

-- the insertions from a page on: those of the page, and then the later ones
abbrev later : List Entries → ℕ → Insertions
later ps i = filter_map insertion_of_record (entries_in (drop (i + 1) ps))

insertions_from : (ps : List Entries) (i : ℕ) (page : Entries) → i < length ps → page ≡ slice_index_or ps i page → filter_map insertion_of_record (entries_in (drop i ps)) ≡ filter_map insertion_of_record page ++ later ps i
insertions_from ps i page w is =
    ap (filter_map insertion_of_record) (rest_of ps i page w ∙ (λ k. sym is k ++ entries_in (drop (sym (add-one i) k) ps))) ∙ filter_map-append insertion_of_record page (entries_in (drop (i + 1) ps))

pub returns-in-Some : goal.returns-in-Some
returns-in-Some c =
    let own : Content = content_of_records c.args.own.now in
    let ps : List Entries = c.args.pages.now.items in
    let page : Entries = c.page-item.result in
    let within : c.loop-page.page-index < length ps = subst (λ xs. c.loop-page.page-index < length xs) c.deref-page-items.ensures.value c.loop-page-test.true in
    let is : page ≡ slice_index_or ps c.loop-page.page-index page = c.page-item.is ∙ ap (λ xs. slice_index_or xs c.loop-page.page-index page) c.deref-page-items.ensures.value in
    sym (some_first own (filter_map insertion_of_record page) (later ps c.loop-page.page-index) c.in-Some.id (ap (λ es. first_conflicting own (filter_map insertion_of_record es)) (sym c.entries.ensures) ∙ sym c.first_conflict_in.ensures ∙ c.in-Some.is))
    ∙ ap (first_conflicting own) (sym (insertions_from ps c.loop-page.page-index page within is))
    ∙ c.loop-page.invariant

pub loop-page-preserved : goal.loop-page-preserved
loop-page-preserved c =
    let own : Content = content_of_records c.args.own.now in
    let ps : List Entries = c.args.pages.now.items in
    let page : Entries = c.page-item.result in
    let within : c.loop-page.page-index < length ps = subst (λ xs. c.loop-page.page-index < length xs) c.deref-page-items.ensures.value c.loop-page-test.true in
    let is : page ≡ slice_index_or ps c.loop-page.page-index page = c.page-item.is ∙ ap (λ xs. slice_index_or xs c.loop-page.page-index page) c.deref-page-items.ensures.value in
    sym (none_first own (filter_map insertion_of_record page) (later ps c.loop-page.page-index) (ap (λ es. first_conflicting own (filter_map insertion_of_record es)) (sym c.entries.ensures) ∙ sym c.first_conflict_in.ensures ∙ c.in_default.is))
    ∙ ap (first_conflicting own) (sym (insertions_from ps c.loop-page.page-index page within is))
    ∙ c.loop-page.invariant
