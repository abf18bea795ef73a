use Rattle.std.proofs.Common.{◌≡◌, ℕ, ◌≤◌, ◌<◌, List, length, slice_set, sym, ap, ◌∙◌, subst}
use Rattle.std.specs.Prelude.{insert}
use Rattle.std.proofs.lemmas.List.{set-get_or}
use Rattle.std.specs.BTreeMap.{insert_entry}
use Rattle.rga_ops.specs.Identifier.{id_cmp}
use Rattle.rga_pages.specs.Pages.{Entries, entries_in, ArePages, IsSpot}
use Rattle.rga_ops.proofs.CaseSteps.{on_ok_map, on_err_always, either_way}
use Rattle.rga_pages.proofs.PartLaws.{index_within, filled_set}
use Rattle.rga_pages.proofs.PlaceLaws.{insert_some}
use Rattle.rga_pages.proofs.SpotLaws.{put_spot, record_none, inserted_pages}
use Rattle.rga_pages.proofs.putting.write.Goals as goal

pub put-requires : goal.put-requires
put-requires c =
    subst (λ y. c.args.at.index ≤ length y) (sym c.index_mut.ensures.value)
    (index_within c.args.pages.now.items c.args.at.page c.args.at.index c.index_mut.result.now c.requires.spot.place)

put_is : (c : goal.After-pages-1) → entries_in (slice_set c.args.pages.now.items c.args.at.page (insert c.index_mut.result.now c.args.at.index (c.args.id, c.args.value))) ≡ insert_entry id_cmp (entries_in c.args.pages.now.items) c.args.id c.args.value
put_is c =
    let ps : List Entries = c.args.pages.now.items in
    ap (λ y. entries_in (slice_set ps c.args.at.page (insert y c.args.at.index (c.args.id, c.args.value)))) c.index_mut.ensures.value
    ∙ put_spot ps c.args.at.page c.args.at.index c.args.id c.index_mut.result.now (subst (λ n. c.args.at.page < n) c.args.pages.now.ok.0 c.requires.page)
    (subst (λ b. IsSpot ps c.args.at.page c.args.at.index b c.args.id) c.if-at.false c.requires.spot) c.args.value

pub returns-clause-ok : goal.returns-clause-ok
returns-clause-ok c =
    on_ok_map c.put.result (λ e. ap (λ y. entries_in (slice_set c.args.pages.now.items c.args.at.page y)) e ∙ put_is c) c.put.ensures.ok

pub returns-clause-absent : goal.returns-clause-absent
returns-clause-absent c =
    on_err_always c.put.result (record_none c.requires.spot c.if-at.false c.requires.kept.ordered)

pub returns-clause-kept : goal.returns-clause-kept
returns-clause-kept c =
    let ps : List Entries = c.args.pages.now.items in
    let p : ℕ = c.args.at.page in
    let old : Entries = c.index_mut.result.now in
    let new : Entries = insert old c.args.at.index (c.args.id, c.args.value) in
    let w : p < length ps = subst (λ n. p < n) c.args.pages.now.ok.0 c.requires.page in
    either_way (λ y. ArePages (slice_set ps p y)) c.put.result c.put.new.self new old c.put.ensures.ok c.put.ensures.err
    (inserted_pages ps (slice_set ps p new) c.args.id c.args.value c.requires.kept (put_is c) (filled_set ps p new c.requires.kept.filled (insert_some old c.args.at.index (c.args.id, c.args.value))))
    (subst ArePages (sym (ap (slice_set ps p) c.index_mut.ensures.value ∙ set-get_or ps p old)) c.requires.kept)
