use Rattle.std.proofs.Common.{◌≡◌, ◌<◌, List, length, slice_set, sym, ap, ◌∙◌, subst}
use Rattle.std.proofs.lemmas.List.{length-set}
use Rattle.std.specs.Prelude.{Some}
use Rattle.std.specs.BTreeMap.{insert_entry}
use Rattle.rga_ops.specs.Identifier.{id_cmp}
use Rattle.rga_pages.specs.Pages.{Entries, entries_in, Updates}
use Rattle.rga_pages.proofs.EntryLaws.{updates_insert}
use Rattle.rga_pages.proofs.PartLaws.{filled_set}
use Rattle.rga_pages.proofs.PlaceLaws.{filled_at}
use Rattle.rga_pages.proofs.SpotLaws.{set_spot, set_is, inserted_pages}
use Rattle.rga_pages.proofs.putting.overwrite.Goals as goal

inserted : (c : goal.After-pages-1) → entries_in (slice_set c.args.pages.now.items c.args.at.page c.set.new.self) ≡ insert_entry id_cmp (entries_in c.args.pages.now.items) c.args.id c.args.value
inserted c =
    let ps : List Entries = c.args.pages.now.items in
    ap (λ y. entries_in (slice_set ps c.args.at.page y)) (c.set.ensures ∙ ap (λ y. slice_set y c.args.at.index (c.args.id, c.args.value)) c.index_mut.ensures.value)
    ∙ set_spot ps c.args.at.page c.args.at.index c.args.id c.index_mut.result.now (subst (λ n. c.args.at.page < n) c.args.pages.now.ok.0 c.requires.page) c.requires.spot c.args.value

pub returns-clause-inserted : goal.returns-clause-inserted
returns-clause-inserted c = inserted c

pub returns-clause-replaced : goal.returns-clause-replaced
returns-clause-replaced c =
    let ps : List Entries = c.args.pages.now.items in
    ap (λ y. entries_in (slice_set ps c.args.at.page y)) (c.set.ensures ∙ ap (λ y. slice_set y c.args.at.index (c.args.id, c.args.value)) c.index_mut.ensures.value)
    ∙ set_is ps c.args.at.page c.args.at.index c.args.id c.index_mut.result.now (subst (λ n. c.args.at.page < n) c.args.pages.now.ok.0 c.requires.page) c.requires.spot c.args.value

pub returns-clause-updates : goal.returns-clause-updates
returns-clause-updates c = subst (λ es. Updates (entries_in c.args.pages.now.items) es c.args.id (Some c.args.value)) (sym (inserted c)) (updates_insert c.args.id c.args.value (entries_in c.args.pages.now.items))

pub returns-clause-kept : goal.returns-clause-kept
returns-clause-kept c =
    let ps : List Entries = c.args.pages.now.items in
    let some : 0 < length c.index_mut.result.now = subst (λ y. 0 < length y) (sym c.index_mut.ensures.value) (filled_at ps c.args.at.page c.index_mut.result.now c.requires.kept.filled (subst (λ n. c.args.at.page < n) c.args.pages.now.ok.0 c.requires.page)) in
    inserted_pages ps (slice_set ps c.args.at.page c.set.new.self) c.args.id c.args.value c.requires.kept (inserted c)
    (filled_set ps c.args.at.page c.set.new.self c.requires.kept.filled
    (subst (λ y. 0 < length y) (sym c.set.ensures) (subst (λ n. 0 < n) (sym (length-set c.index_mut.result.now c.args.at.index (c.args.id, c.args.value))) some)))
