use Rattle.std.proofs.Common.{sym, ap, ◌∙◌, subst}
use Rattle.rga_store.specs.Back.{without_noted, CanTakeBack, IsLastNoted}
use Rattle.rga_store.proofs.BackLaws.{last_step, without_noted-push}
use Rattle.rga_tree.proofs.tree_store.TreeStore.go_back.Goals as goal

pub remove-requires-clause-held : goal.remove-requires-clause-held
remove-requires-clause-held c = (last_step c.pop.new.self.items c.in-Some.step c.loop-step.self.content (rw (← c.in-Some.ensures.items) c.loop-step.invariant.left)).held

pub remove-requires-clause-clock : goal.remove-requires-clause-clock
remove-requires-clause-clock c = (last_step c.pop.new.self.items c.in-Some.step c.loop-step.self.content (rw (← c.in-Some.ensures.items) c.loop-step.invariant.left)).clocked

pub loop-step-preserved : goal.loop-step-preserved
loop-step-preserved c =
    record {
      limit = c.remove.ensures.limit ∙ c.loop-step.invariant.limit;
      left = rw c.remove.ensures.content (last_step c.pop.new.self.items c.in-Some.step c.loop-step.self.content (rw (← c.in-Some.ensures.items) c.loop-step.invariant.left)).rest;
      start = ap (without_noted c.pop.new.self.items) c.remove.ensures.content
          ∙ sym (without_noted-push c.pop.new.self.items c.in-Some.step c.loop-step.self.content)
          ∙ ap (λ ss. without_noted ss c.loop-step.self.content) (sym c.in-Some.ensures.items) ∙ c.loop-step.invariant.start;
    }
