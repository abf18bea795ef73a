use Rattle.std.proofs.Common.{◌≡◌, ◌≤◌, ◌<◌, [], ◌∷◌, List, length, slice_index_or, refl, ap, ◌∙◌, subst, arith}
use Rattle.std.proofs.lemmas.List.{get_or_default}
use Rattle.std.specs.BTreeMap.{insert_entry}
use Rattle.rga_ops.specs.Identifier.{id_cmp}
use Rattle.rga_pages.specs.Pages.{Entries, entries_in}
use Rattle.rga_ops.proofs.CaseSteps.{on_err_always}
use Rattle.rga_pages.proofs.PartLaws.{index_within, own_behind}
use Rattle.rga_pages.proofs.SpotLaws.{put_is, record_none, inserted_pages}
use Rattle.rga_pages.proofs.putting.insert_in_full.Goals as goal

pub returns-in_err-put_own-clause-absent : goal.returns-in_err-put_own-clause-absent
returns-in_err-put_own-clause-absent c = on_err_always c.from_residual.result (record_none c.requires.spot refl c.requires.kept.ordered)

own_is : (c : goal.After-struct_known-then-at-entries-2-1) → entries_in c.put_own.new.pages.items ≡ insert_entry id_cmp (entries_in c.args.pages.now.items) c.args.id c.args.value
own_is c =
    let ps : List Entries = c.args.pages.now.items in
    let within : c.args.at.page < length ps = subst (λ n. c.args.at.page < n) c.args.pages.now.ok.0 c.requires.page in
    let same : length c.entries.result.now ≡ length (slice_index_or ps c.args.at.page []) = ap length (c.entries.ensures ∙ c.index.ensures ∙ get_or_default ps c.args.at.page c.index.result.now [] within) in
    let most : c.args.at.index ≤ length (slice_index_or ps c.args.at.page []) = index_within ps c.args.at.page c.args.at.index [] c.requires.spot.place in
    ap entries_in c.in_ok-put_own.ensures.ok
    ∙ own_behind ps c.args.at.page c.args.at.index ((c.args.id, c.args.value) ∷ []) [] within (omega (arith, same, most, c.if-at-entries.true))
    ∙ put_is ps c.args.at.page c.args.at.index c.args.id [] within c.requires.spot c.args.value

pub returns-then-at-entries-clause-ok : goal.returns-then-at-entries-clause-ok
returns-then-at-entries-clause-ok c = own_is c

pub returns-then-at-entries-clause-kept : goal.returns-then-at-entries-clause-kept
returns-then-at-entries-clause-kept c =
    inserted_pages c.args.pages.now.items c.put_own.new.pages.items c.args.id c.args.value c.requires.kept (own_is c) c.put_own.ensures.filled

pub returns-in_err-cut_page-clause-absent : goal.returns-in_err-cut_page-clause-absent
returns-in_err-cut_page-clause-absent c = on_err_always c.from_residual-in_err-cut_page.result (record_none c.requires.spot refl c.requires.kept.ordered)
