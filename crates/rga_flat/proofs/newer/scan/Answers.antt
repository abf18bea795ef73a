use Rattle.std.proofs.Common.{◌≡◌, ◌<◌, ◌+◌, true, ◌∷◌, ◌++◌, ℕ, List, [], length, take, slice_index_or, refl, sym, ap, ◌∙◌, subst, arith, length-append}
use Rattle.std.specs.FinMap as finite_map
use Rattle.rga_ops.specs.Content.{Content, join, single, clock_of, known_count}
use Rattle.rga_ops.specs.Answer.{answer}
use Rattle.rga_ops.specs.declared.op.Op.{Op}
use Rattle.rga_ops.specs.declared.op.Op.TheVariants.{Insert}
use Rattle.rga_ops.specs.declared.refusal.Taken.TheVariants.{New}
use Rattle.rga_ops.proofs.AnswerLaws.{ok}
use Rattle.rga_store.specs.Counted.{IsCounted}
use Rattle.rga_sequence.specs.declared.entry.Entry.{Entry}
use Rattle.rga_records.specs.Chains.{grown, last_entry_of, AreNewer}
use Rattle.rga_records.proofs.NewerLaws.{newer_is_new, newer_unmarked, grown-push, newer-push, last_entry_of-push, counted_newer, counted_as}
use Rattle.rga_flat.specs.Chains.{IsGathered, ChainShows}
use Rattle.rga_flat.specs.Flat.{is_above}
use Rattle.rga_flat.proofs.ChainLaws.{gathered_next, shows_more, own_proper, own_above}
use Rattle.rga_flat.proofs.newer.scan.Goals as goal

pub loop-op-preserved : goal.loop-op-preserved
loop-op-preserved c =
    let limit : ℕ = c.args.records.now.limit in
    let base : Content = c.args.records.now.content in
    let e : Entry = c.in-Some.entry in
    let es : List Entry = c.loop-op.entries.items in
    let fs : List Entry = es ++ e ∷ [] in
    let op : Op = Insert e.id c.loop-op.last e.ch in
    let was : Content = grown base c.args.parent es in
    let now : Content = grown base c.args.parent fs in
    let joined : now ≡ join was (single op) = grown-push base c.args.parent es e ∙ ap (λ k. join was (single (Insert e.id k e.ch))) (sym c.loop-op.invariant.last) in
    let counted : IsCounted was c.loop-op.clock (finite_map.len was.inserted) (known_count base + length es) limit = c.loop-op.invariant.counted in
    let newer : clock_of was < e.id.counter = subst (λ n. n < e.id.counter) counted.clocked c.in-Some.ensures.newer in
    let space : known_count base + length es < limit = omega (arith, c.if-as_slice-most.false, ap length c.as_slice.ensures.value, c.min-most.ensures, c.known-known.ensures.known, c.known-known.ensures.within, c.limit.ensures.limit) in
    let answered : answer limit was op ≡ ok New = newer_is_new limit was e.id c.loop-op.last e.ch newer c.in-Some.ensures.rises (subst (λ n. n < limit) counted.known space) in
    let many : length fs ≡ length es + 1 = length-append es (e ∷ []) in
    let later : IsCounted now e.id.counter (finite_map.len now.inserted) (known_count base + length fs) limit =
    counted_as (join was (single op)) now e.id.counter (finite_map.len was.inserted + 1) (known_count base + length es + 1) (known_count base + length fs) limit joined (omega (arith, many))
    (counted_newer was c.loop-op.clock (finite_map.len was.inserted) (known_count base + length es) limit counted e.id c.loop-op.last e.ch newer c.in-Some.ensures.rises space) in
    let gathered : IsGathered limit base now (take (length es + 1) c.args.ops.now) c.args.steps.now.items c.note.new.steps.items =
    gathered_next limit base was now _ c.op-item.result c.args.ops.now (length es) c.args.steps.now.items c.loop-op.steps.items c.note.new.steps.items
    c.note.ensures.noted c.loop-op.invariant.gathered
    (omega (arith, c.loop-op-test.true, c.loop-op.invariant.count)) (c.op-item.is ∙ ap (λ n. slice_index_or c.args.ops.now n c.op-item.result) (sym c.loop-op.invariant.count)) refl
    (subst (λ o. answer limit was o ≡ ok New) (sym c.in-Some.ensures.op) answered)
    (subst (λ o. now ≡ join was (single o)) (sym c.in-Some.ensures.op) joined)
    counted.clocked in
    let shows : ChainShows base now c.args.parent fs c.args.waiting.now =
    shows_more limit was now c.loop-op.last e counted.sound later.sound answered joined c.loop-op.invariant.above
    c.args.waiting.now (c.in-Some.ensures.visible ∙ sym (newer_unmarked was e.id newer)) c.in-Some.ensures.unlisted base c.args.parent es c.loop-op.invariant.last c.loop-op.invariant.proper c.loop-op.invariant.shows in
    let pushed : c.push_reserved.new.self.items ≡ fs = c.push_reserved.ensures.items in
    record {
      count = omega (arith, ap length pushed, many, c.loop-op.invariant.count);
      few = omega (arith, ap length pushed, many, ap length c.as_slice.ensures.value, c.if-as_slice-most.false);
      newer = subst (AreNewer base c.args.parent) (sym pushed) (newer-push base c.args.parent es e c.loop-op.invariant.newer newer (subst (λ k. k.counter < e.id.counter) c.loop-op.invariant.last c.in-Some.ensures.rises));
      counted =
          subst (λ xs. IsCounted (grown base c.args.parent xs) c.counter-clock.result (finite_map.len (grown base c.args.parent xs).inserted) (known_count base + length xs) limit) (sym pushed)
          (subst (λ n. IsCounted now n (finite_map.len now.inserted) (known_count base + length fs) limit) (sym c.counter-clock.ensures.value) later);
      gathered =
          subst (λ xs. IsGathered limit base (grown base c.args.parent xs) (take (length xs) c.args.ops.now) c.args.steps.now.items c.note.new.steps.items) (sym pushed)
          (subst (λ n. IsGathered limit base now (take n c.args.ops.now) c.args.steps.now.items c.note.new.steps.items) (sym many) gathered);
      shows = subst (λ xs. ChainShows base (grown base c.args.parent xs) c.args.parent xs c.args.waiting.now) (sym pushed) shows;
      last = sym (ap (last_entry_of c.args.parent) pushed ∙ last_entry_of-push c.args.parent es e);
      proper = λ some. own_proper limit was now c.loop-op.last e counted.sound later.sound answered joined c.loop-op.invariant.above;
      above = subst (λ xs. is_above (grown base c.args.parent xs) e.id ≡ true) (sym pushed) (own_above limit was now c.loop-op.last e counted.sound later.sound answered joined c.loop-op.invariant.above);
      room = c.push_reserved.ensures.capacity ∙ c.loop-op.invariant.room;
      noted =
          let more_steps : length c.note.new.steps.items ≡ length c.loop-op.steps.items + 1 = ap length c.note.ensures.noted ∙ length-append c.loop-op.steps.items _ in
          omega (arith, more_steps, c.loop-op.invariant.noted, c.note.new.steps.ok.0, c.loop-op.steps.ok.0);
      steps_room = c.note.ensures.capacity ∙ c.loop-op.invariant.steps_room;
    }
