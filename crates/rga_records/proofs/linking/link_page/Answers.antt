use Rattle.std.proofs.Common.{◌≡◌, ◌≤◌, ◌<◌, ◌+◌, ◌-◌, ℕ, [], ◌∷◌, ◌++◌, List, length, slice_index_or, sym, ap, ◌∙◌, subst, arith}
use Rattle.std.specs.Map.{keys_of}
use Rattle.rga_ops.specs.Identifier.{Identifier}
use Rattle.rga_pages.specs.declared.entry.Record.{Record}
use Rattle.rga_pages.specs.Pages.{Entries, entries_before, entries_behind}
use Rattle.rga_pages.proofs.PartLaws.{parted}
use Rattle.rga_records.specs.Links.{AreLinks, AreSoundRecords, IsNodeOf}
use Rattle.rga_records.proofs.LinkedRecordLaws.{sound_before}
use Rattle.rga_records.proofs.NodeLaws.{none_before, one_more_before, page_before}
use Rattle.rga_records.proofs.linking.link_page.Goals as goal

pub loop-index-init : goal.loop-index-init
loop-index-init c =
    let ps : List Entries = c.args.pages.now.items in
    let w : c.args.page < length ps = subst (λ n. c.args.page < n) c.args.pages.now.ok.0 c.requires.within in
    subst (λ es. AreLinks es c.args.links.now.shown.items c.args.links.now.next.items) (sym (none_before ps c.args.page w)) c.requires.links

pub loop-index-preserved : goal.loop-index-preserved
loop-index-preserved c =
    let ps : List Entries = c.args.pages.now.items in
    let p : ℕ = c.args.page in
    let i : ℕ = c.loop-index.index in
    let e : Identifier × Record = c.index-entries-index.result in
    let w : p < length ps = subst (λ n. p < n) c.args.pages.now.ok.0 c.requires.within in
    let page : c.entries-entries.result.now ≡ slice_index_or ps p c.index.result.now = c.entries-entries.ensures ∙ c.index.ensures in
    let within : i < length (slice_index_or ps p c.index.result.now) = subst (λ y. i < length y) page c.loop-index-test.true in
    let more : entries_before ps p i ++ e ∷ [] ≡ entries_before ps p (i + 1) =
    ap (λ x. entries_before ps p i ++ x ∷ []) (c.index-entries-index.is ∙ ap (λ y. slice_index_or y i e) page) ∙ one_more_before ps p i c.index.result.now e w within in
    let sound : AreSoundRecords (entries_before ps p (i + 1)) = sound_before (entries_before ps p (i + 1)) (entries_behind ps p (i + 1)) (subst AreSoundRecords (parted ps p (i + 1)) c.requires.sound) in
    let last : length c.args.heads.now - 1 ≡ p = omega (arith, c.requires.counted) in
    let node : IsNodeOf e.1.parent (keys_of (entries_before ps p i)) c.node_of-above.result =
    subst (λ q. IsNodeOf q (keys_of (entries_before ps p i)) c.node_of-above.result) c.parent.ensures
    (subst (λ n. IsNodeOf c.parent.result (keys_of (entries_before ps n i)) c.node_of-above.result) last c.node_of-above.ensures) in
    subst (λ es. AreLinks es c.link_entry.new.links.shown.items c.link_entry.new.links.next.items) more
    (c.in_ok-link_entry.ensures.ok (entries_before ps p i) (subst AreSoundRecords (sym more) sound) c.loop-index.invariant node)

pub returns : goal.returns
returns c = record {
  ok =
      let ps : List Entries = c.args.pages.now.items in
      let p : ℕ = c.args.page in
      let i : ℕ = c.loop-index.index in
      let w : p < length ps = subst (λ n. p < n) c.args.pages.now.ok.0 c.requires.within in
      let page : c.entries-entries.result.now ≡ slice_index_or ps p c.index.result.now = c.entries-entries.ensures ∙ c.index.ensures in
      let past : length (slice_index_or ps p c.index.result.now) ≤ i = subst (λ y. length y ≤ i) page (omega (arith, c.loop-index-test.false)) in
      subst (λ es. AreLinks es c.loop-index.links.shown.items c.loop-index.links.next.items) (page_before ps p i c.index.result.now w past) c.loop-index.invariant;
}
