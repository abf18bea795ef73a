use Rattle.std.proofs.Common.{◌≡◌, ◌<◌, ◌+◌, ◌∷◌, List, [], length, take, slice_index_or, refl, sym, ap, ◌∙◌, subst, arith, length-append}
use Rattle.rga_ops.specs.Content.{Content, IsSound, join, single, clock_of}
use Rattle.rga_ops.specs.Answer.{answer}
use Rattle.rga_ops.specs.declared.op.Op.{Op}
use Rattle.rga_ops.specs.declared.op.Op.TheVariants.{Insert}
use Rattle.rga_ops.specs.declared.refusal.Taken.TheVariants.{New}
use Rattle.rga_ops.proofs.AnswerLaws.{ok}
use Rattle.rga_store.specs.Kept.{Kept}
use Rattle.rga_sequence.specs.declared.entry.Entry.{Entry}
use Rattle.rga_records.specs.Chains.{last_entry_of}
use Rattle.rga_records.proofs.NewerLaws.{last_entry_of-push}
use Rattle.rga_flat.specs.Chains.{IsGathered, ChainShows}
use Rattle.rga_flat.proofs.ChainLaws.{gathered_next, shows_more, own_proper, own_above}
use Rattle.rga_flat.proofs.chains.gather.Goals as goal

pub returns-in_default-clause-shows : goal.returns-in_default-clause-shows
returns-in_default-clause-shows c = rw c.next_entry.ensures.same c.loop-op.invariant.shows

pub returns-in_err-add-clause-shows : goal.returns-in_err-add-clause-shows
returns-in_err-add-clause-shows c = rw (c.in_err-add.ensures.same_entries, c.in_err-add.ensures.same, c.next_entry.ensures.same) c.loop-op.invariant.shows

pub add-requires-clause-room : goal.add-requires-clause-room
add-requires-clause-room c =
    omega (arith, c.loop-op.invariant.room, c.loop-op.invariant.count, c.requires.room, c.loop-op-test.true, c.loop-op.entries.ok.0, ap length c.as_slice.ensures.value, c.if-as_slice-ge-MOST_AT_ONCE.false)

pub add-requires-clause-steps_room : goal.add-requires-clause-steps_room
add-requires-clause-steps_room c =
    omega (arith, c.loop-op.invariant.steps_room, c.loop-op.invariant.noted, c.loop-op.invariant.count, c.requires.steps_room, c.loop-op-test.true, ap length c.as_slice.ensures.value, c.if-as_slice-ge-MOST_AT_ONCE.false)

pub loop-op-preserved : goal.loop-op-preserved
loop-op-preserved c =
    let was : Content = c.loop-op.records.content in
    let now : Content = c.add.new.records.content in
    let e : Entry = c.in-Some.entry in
    let es : List Entry = c.loop-op.entries.items in
    let op : Op = Insert e.id c.loop-op.last e.ch in
    let answered : answer c.loop-op.records.limit was op ≡ ok New = subst (λ o. answer c.loop-op.records.limit was o ≡ ok New) c.in-Some.ensures.op c.in-Some.ensures.new in
    let joined : now ≡ join was (single op) = c.in_ok-add.ensures.ok ∙ ap (λ (r : Kept). join r.content (single op)) c.next_entry.ensures.same in
    let sound : IsSound was = subst (λ (r : Kept). IsSound r.content) c.next_entry.ensures.same c.known-before.ensures.sound in
    let more : length c.add.new.entries.items ≡ length es + 1 = ap length c.in_ok-add.ensures.entries ∙ length-append es (e ∷ []) in
    let room : c.loop-op.op-index < length c.args.ops.now = c.loop-op-test.true in
    record {
      count = omega (arith, more, c.loop-op.invariant.count);
      few = omega (arith, more, ap length c.as_slice.ensures.value, c.if-as_slice-ge-MOST_AT_ONCE.false);
      gathered =
          subst (λ n. IsGathered c.args.records.now.limit c.args.records.now.content now (take n c.args.ops.now) c.args.steps.now.items c.add.new.steps.items) (sym more)
          (gathered_next c.args.records.now.limit c.args.records.now.content was now _ c.op-item.result c.args.ops.now (length es) c.args.steps.now.items c.loop-op.steps.items c.add.new.steps.items
          c.in_ok-add.ensures.steps c.loop-op.invariant.gathered
          (omega (arith, room, c.loop-op.invariant.count)) (c.op-item.is ∙ ap (λ n. slice_index_or c.args.ops.now n c.op-item.result) (sym c.loop-op.invariant.count)) refl
          (subst (λ n. answer n was c.op-item.result ≡ ok New) c.loop-op.invariant.limit c.in-Some.ensures.new)
          (subst (λ o. now ≡ join was (single o)) (sym c.in-Some.ensures.op) joined)
          (ap (λ (r : Kept). clock_of r.content) c.next_entry.ensures.same));
      shows = subst (λ xs. ChainShows c.args.records.now.content now c.args.parent xs c.args.waiting.now) (sym c.in_ok-add.ensures.entries)
          (shows_more c.loop-op.records.limit was now c.loop-op.last e sound c.known-now.ensures.sound answered joined c.loop-op.invariant.above
          c.args.waiting.now c.in-Some.ensures.deleted c.in-Some.ensures.unlisted c.args.records.now.content c.args.parent es c.loop-op.invariant.last c.loop-op.invariant.proper c.loop-op.invariant.shows);
      last = sym (ap (last_entry_of c.args.parent) c.in_ok-add.ensures.entries ∙ last_entry_of-push c.args.parent es e);
      proper = λ some. own_proper c.loop-op.records.limit was now c.loop-op.last e sound c.known-now.ensures.sound answered joined c.loop-op.invariant.above;
      above = own_above c.loop-op.records.limit was now c.loop-op.last e sound c.known-now.ensures.sound answered joined c.loop-op.invariant.above;
      room = c.add.ensures.capacity ∙ c.loop-op.invariant.room;
      noted =
          let more_steps : length c.add.new.steps.items ≡ length c.loop-op.steps.items + 1 = ap length c.in_ok-add.ensures.steps ∙ length-append c.loop-op.steps.items _ in
          omega (arith, more_steps, c.loop-op.invariant.noted, c.add.new.steps.ok.0, c.loop-op.steps.ok.0);
      steps_room = c.add.ensures.steps_capacity ∙ c.loop-op.invariant.steps_room;
      limit = c.add.ensures.limit ∙ ap (λ (r : Kept). r.limit) c.next_entry.ensures.same ∙ c.loop-op.invariant.limit;
    }
