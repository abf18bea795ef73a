use Rattle.std.proofs.Common.{◌<◌, ◌++◌, ◌∷◌, [], length, take, drop, sym, ap, ◌∙◌, subst}
use Rattle.rga_store.specs.Back.{without_noted, CanTakeBack, IsLastNoted}
use Rattle.rga_store.proofs.BackLaws.{last_step, left_gone, left_kept}
use Rattle.rga_records.proofs.taking.remove_from.Goals as goal

pub remove-requires-clause-held : goal.remove-requires-clause-held
remove-requires-clause-held c =
    (last_step c.pop.new.self.items c.in-Some.step c.loop-steps.records.content (subst (λ ss. CanTakeBack ss c.loop-steps.records.content) c.in-Some.ensures.items c.loop-steps.invariant.back)).held

pub remove-requires-clause-clock : goal.remove-requires-clause-clock
remove-requires-clause-clock c =
    (last_step c.pop.new.self.items c.in-Some.step c.loop-steps.records.content (subst (λ ss. CanTakeBack ss c.loop-steps.records.content) c.in-Some.ensures.items c.loop-steps.invariant.back)).clocked

pub loop-steps-preserved : goal.loop-steps-preserved
loop-steps-preserved c =
    let last : IsLastNoted c.pop.new.self.items c.in-Some.step.op.now c.in-Some.step.clock c.loop-steps.records.content =
    last_step c.pop.new.self.items c.in-Some.step c.loop-steps.records.content (subst (λ ss. CanTakeBack ss c.loop-steps.records.content) c.in-Some.ensures.items c.loop-steps.invariant.back) in
    let more : c.args.from < length (c.pop.new.self.items ++ c.in-Some.step ∷ []) =
    subst (λ ss. c.args.from < length ss) (c.as_slice.ensures.value ∙ c.in-Some.ensures.items) c.loop-steps-test.true in
    record {
      back = subst (λ d. CanTakeBack c.pop.new.self.items d) (sym c.remove.ensures.content) last.rest;
      gone =
          ap (without_noted (drop c.args.from c.pop.new.self.items)) c.remove.ensures.content
          ∙ left_gone c.args.from c.pop.new.self.items c.in-Some.step c.loop-steps.records.content more
          ∙ ap (λ ss. without_noted (drop c.args.from ss) c.loop-steps.records.content) (sym c.in-Some.ensures.items)
          ∙ c.loop-steps.invariant.gone;
      kept =
          left_kept c.args.from c.pop.new.self.items c.in-Some.step more
          ∙ ap (take c.args.from) (sym c.in-Some.ensures.items)
          ∙ c.loop-steps.invariant.kept;
      limit = c.remove.ensures.limit ∙ c.loop-steps.invariant.limit;
    }
