use Rattle.std.proofs.Common.{◌≡◌, [], ◌++◌, ◌-◌, take, refl, sym, ap, ◌∙◌, subst}
use Rattle.std.specs.BTreeSet.{contains}
use Rattle.rga_ops.specs.Identifier.{id_cmp}
use Rattle.rga_ops.specs.Content.{Content}
use Rattle.rga_store.specs.Without.{without_operation}
use Rattle.rga_store.specs.Back.{without_noted}
use Rattle.rga_flat.specs.Flat.{IsFlat}
use Rattle.rga_flat.specs.Undo.{IsGoingBack}
use Rattle.rga_flat.specs.Waiting.{under, has_list}
use Rattle.rga_store.proofs.BackLaws.{last_step, without_noted-push}
use Rattle.rga_flat.proofs.BackLaws.{gone_within, going_undone, gone_there}
use Rattle.rga_flat.proofs.UndoLaws.{going_start}
use Rattle.rga_flat.proofs.undoing.go_back.Goals as goal

pub loop-step-init : goal.loop-step-init
loop-step-init c = record {
  limit = refl;
  left = c.requires.back;
  start = refl;
  going = rw c.take_out_all.ensures (going_start _ _ _ _ _ (contains id_cmp c.args.done.now) c.requires.returnable.flat c.requires.returnable.based);
}

pub undo-requires-clause-held : goal.undo-requires-clause-held
undo-requires-clause-held c = (last_step c.pop.new.self.items c.in-Some.step c.loop-step.records.content (rw (← c.in-Some.ensures.items) c.loop-step.invariant.left)).held

pub undo-requires-clause-clock : goal.undo-requires-clause-clock
undo-requires-clause-clock c = (last_step c.pop.new.self.items c.in-Some.step c.loop-step.records.content (rw (← c.in-Some.ensures.items) c.loop-step.invariant.left)).clocked

pub loop-step-preserved : goal.loop-step-preserved
loop-step-preserved c =
    let was_last = last_step c.pop.new.self.items c.in-Some.step c.loop-step.records.content (rw (← c.in-Some.ensures.items) c.loop-step.invariant.left) in
    let base : Content = without_noted c.args.steps.items c.args.records.now.content in
    let then : without_noted c.pop.new.self.items (without_operation c.in-Some.step.op.now c.loop-step.records.content) ≡ base =
    sym (without_noted-push c.pop.new.self.items c.in-Some.step c.loop-step.records.content)
    ∙ ap (λ ss. without_noted ss c.loop-step.records.content) (sym c.in-Some.ensures.items) ∙ c.loop-step.invariant.start in
    record {
      limit = c.undo.ensures.limit ∙ c.loop-step.invariant.limit;
      left = rw c.undo.ensures.content was_last.rest;
      start = ap (without_noted c.pop.new.self.items) c.undo.ensures.content ∙ then;
      going = rw (c.undo.ensures.content, c.undo.ensures.entries)
          (going_undone c.in-Some.step.op.now _ base _ _ _ _ _ c.loop-step.invariant.going was_last.held (rw (← then) (gone_within c.pop.new.self.items _)) c.undo.ensures.under c.undo.ensures.lists);
    }

pub returns-clause-content : goal.returns-clause-content
returns-clause-content c =
    let none : c.loop-step.steps.items ≡ [] =
    c.in_default.ensures.items ∙ ap (λ xs. xs ++ []) (c.in_default.ensures.rest ∙ ap (λ n. take (n - 1) c.loop-step.steps.items) c.in_default.ensures.cases.0) in
    sym (ap (λ ss. without_noted ss c.loop-step.records.content) none) ∙ c.loop-step.invariant.start

pub returns-clause-flat : goal.returns-clause-flat
returns-clause-flat c =
    let none : c.loop-step.steps.items ≡ [] =
    c.in_default.ensures.items ∙ ap (λ xs. xs ++ []) (c.in_default.ensures.rest ∙ ap (λ n. take (n - 1) c.loop-step.steps.items) c.in_default.ensures.cases.0) in
    let base : Content = without_noted c.args.steps.items c.args.records.now.content in
    let there : c.loop-step.records.content ≡ base = sym (ap (λ ss. without_noted ss c.loop-step.records.content) none) ∙ c.loop-step.invariant.start in
    subst (λ d. IsFlat d c.loop-step.sequence (under c.loop-step.waiting) (has_list c.loop-step.waiting)) (sym there)
    (gone_there c.args.records.now.content base c.args.sequence.now c.args.waiting.now c.args.done.now c.requires.returnable c.loop-step.sequence c.loop-step.waiting
    (subst (λ d. IsGoingBack c.args.records.now.content base d c.loop-step.sequence c.loop-step.waiting (contains id_cmp c.args.done.now)) there c.loop-step.invariant.going))
