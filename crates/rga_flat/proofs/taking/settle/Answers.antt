use Rattle.std.proofs.Common.{not, ◌&&◌, [], refl, sym, ap, ◌∙◌}
use Rattle.std.specs.BTreeSet.{contains}
use Rattle.rga_ops.specs.Identifier.{id_cmp}
use Rattle.rga_ops.proofs.CaseSteps.{on_ok_map, on_err_map, on_err_always}
use Rattle.rga_sequence.specs.Entries.{put_entry}
use Rattle.rga_flat.specs.Waiting.{under, has_list}
use Rattle.rga_flat.proofs.EntryLaws.{on_ok, on_ok_both}
use Rattle.rga_flat.proofs.WaitingLaws.{listed_stays, under_none}
use Rattle.rga_flat.proofs.PlacingLaws.{place_step, place_absent, place_parent, placed_flat}
use Rattle.rga_flat.proofs.FlatLaws.{starts, rests, stays_before, based_then, based_waiting, based_before}
use Rattle.rga_flat.proofs.taking.settle.Goals as goal

-- ---- it waits

pub returns-then-not-above-clause-ok : goal.returns-then-not-above-clause-ok
returns-then-not-above-clause-ok c =
    on_ok_both c.add_waiting.result
    (λ there pushed. rests _ c.known-known.ensures.sound _ _ _ c.requires.element _ _ _ c.requires.flat _ _ (sym c.requires.above ∙ c.if-not-above.true)
    (listed_stays c.args.waiting.now c.add_waiting.new.waiting c.args.done.now _ _ c.add_waiting.ensures.stays c.add_waiting.ensures.others) ((λ i. there i && not (c.requires.fresh i))) pushed)
    c.add_waiting.ensures.there c.add_waiting.ensures.ok

pub returns-then-not-above-clause-same : goal.returns-then-not-above-clause-same
returns-then-not-above-clause-same c =
    on_err_map c.add_waiting.result
    (stays_before _ c.known-known.ensures.sound _ _ _ c.requires.element _ _ _ c.requires.flat _ _ (sym c.requires.above ∙ c.if-not-above.true)
    (listed_stays c.args.waiting.now c.add_waiting.new.waiting c.args.done.now _ _ c.add_waiting.ensures.stays c.add_waiting.ensures.others))
    c.add_waiting.ensures.same

pub returns-then-not-above-clause-based : goal.returns-then-not-above-clause-based
returns-then-not-above-clause-based c = λ base b.
    on_ok_map c.add_waiting.result (based_waiting _ _ _ _ c.requires.element _ _ _ _ _ b (sym c.requires.above ∙ c.if-not-above.true) (c.add_waiting.ensures.stays, c.add_waiting.ensures.others)) c.add_waiting.ensures.ok

pub returns-then-not-above-clause-left : goal.returns-then-not-above-clause-left
returns-then-not-above-clause-left c = λ base b.
    on_err_map c.add_waiting.result (based_before _ _ _ _ c.requires.element _ _ _ _ _ b (sym c.requires.above ∙ c.if-not-above.true) (c.add_waiting.ensures.stays, c.add_waiting.ensures.others)) c.add_waiting.ensures.same

-- ---- it is placed, and what waits for it

pub place_all-requires : goal.place_all-requires
place_all-requires c = starts _ c.known-known.ensures.sound _ _ _ c.requires.element _ _ _ c.requires.flat (sym c.requires.above ∙ c.if-not-above.false)

pub returns-then-has_list-clause-ok : goal.returns-then-has_list-clause-ok
returns-then-has_list-clause-ok c = on_ok_map c.place_all.result (placed_flat _ _ _ _) c.place_all.ensures.ok

pub returns-then-has_list-clause-same : goal.returns-then-has_list-clause-same
returns-then-has_list-clause-same c = on_err_map c.place_all.result (λ same. rw same c.requires.flat) c.place_all.ensures.same

pub returns-then-has_list-clause-based : goal.returns-then-has_list-clause-based
returns-then-has_list-clause-based c = λ base b. on_ok c.place_all.result (based_then _ _ _ _ c.requires.element _ _ (under c.args.waiting.now) _ (has_list c.args.waiting.now) b)

pub returns-then-has_list-clause-left : goal.returns-then-has_list-clause-left
returns-then-has_list-clause-left c = λ base b. on_err_always c.place_all.result b

-- ---- nothing waits for it

pub put_behind-requires-clause-parent : goal.put_behind-requires-clause-parent
put_behind-requires-clause-parent c = place_parent _ _ _ _ _ [] _ refl (starts _ c.known-known.ensures.sound _ _ _ c.requires.element _ _ _ c.requires.flat (sym c.requires.above ∙ c.if-not-above.false)) _ c.requires.element

pub put_behind-requires-clause-absent : goal.put_behind-requires-clause-absent
put_behind-requires-clause-absent c = place_absent _ _ _ _ _ [] _ refl (starts _ c.known-known.ensures.sound _ _ _ c.requires.element _ _ _ c.requires.flat (sym c.requires.above ∙ c.if-not-above.false))

pub returns-then-not-is_next-clause-ok : goal.returns-then-not-is_next-clause-ok
returns-then-not-is_next-clause-ok c =
    placed_flat _ _ _ _
    (place_step _ _ _ _ _ _ [] _ refl (starts _ c.known-known.ensures.sound _ _ _ c.requires.element _ _ _ c.requires.flat (sym c.requires.above ∙ c.if-not-above.false))
    (ap (λ b. b && not (contains id_cmp c.args.done.now c.args.entry.now.id)) (sym c.has_list.ensures ∙ c.if-has_list.false)) (λ k f. refl)
    _ [] _ c.requires.element (sym (under_none c.args.waiting.now _ (sym c.has_list.ensures ∙ c.if-has_list.false)))
    (c.in_ok-own.ensures.put ∙ (λ i. put_entry c.args.parent (record { id = c.args.entry.now.id; ch = c.args.entry.now.ch; deleted = c.requires.deleted i }) c.args.sequence.now)))

pub returns-else-not-is_next-clause-ok : goal.returns-else-not-is_next-clause-ok
returns-else-not-is_next-clause-ok c =
    placed_flat _ _ _ _
    (place_step _ _ _ _ _ _ [] _ refl (starts _ c.known-known.ensures.sound _ _ _ c.requires.element _ _ _ c.requires.flat (sym c.requires.above ∙ c.if-not-above.false))
    (ap (λ b. b && not (contains id_cmp c.args.done.now c.args.entry.now.id)) (sym c.has_list.ensures ∙ c.if-has_list.false)) (λ k f. refl)
    _ [] _ c.requires.element (sym (under_none c.args.waiting.now _ (sym c.has_list.ensures ∙ c.if-has_list.false)))
    (c.in_ok-own.ensures.put ∙ (λ i. put_entry c.args.parent (record { id = c.args.entry.now.id; ch = c.args.entry.now.ch; deleted = c.requires.deleted i }) c.args.sequence.now)))

pub returns-then-not-is_next-clause-based : goal.returns-then-not-is_next-clause-based
returns-then-not-is_next-clause-based c = λ base b. based_then _ _ _ _ c.requires.element _ _ (under c.args.waiting.now) _ (has_list c.args.waiting.now) b

pub returns-else-not-is_next-clause-based : goal.returns-else-not-is_next-clause-based
returns-else-not-is_next-clause-based c = λ base b. based_then _ _ _ _ c.requires.element _ _ (under c.args.waiting.now) _ (has_list c.args.waiting.now) b
