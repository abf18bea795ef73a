use Rattle.std.proofs.Common.{Ok, sym, ◌∙◌, true≢false, inl, inr}
use Rattle.rga_store.proofs.TakingLaws.{one_taken}
use Rattle.rga_flat.proofs.WaitingLaws.{none_done, unlisted_done}
use Rattle.rga_flat.proofs.FlatLaws.{flat_cleared}
use Rattle.rga_flat.proofs.flat_store.FlatStoreTaker.apply.Goals as goal

pub invariant_of-self-2 : goal.invariant_of-self-2
invariant_of-self-2 c =
    flat_cleared _ _ _ _ _ _ _ c.in_ok-taken.ensures.flat
    (λ p t. elim (c.in_ok-taken.ensures.inserted p t) [
      | inl old ↦ absurd (true≢false (sym old ∙ none_done c.new-done.result c.new-done.ensures.empty p))
      | inr there ↦ there
    ])
    (unlisted_done c.take.new.waiting c.take.new.done) c.clear_lists.ensures.under c.clear_lists.ensures.lists

pub returns-clause-took : goal.returns-clause-took
returns-clause-took c =
    rw (← c.self.view_is) (one_taken _ _ _ c.args.op (Ok c.in_ok-taken.taken) c.in_ok-taken.ensures.exact c.in_ok-taken.ensures.new c.in_ok-taken.ensures.same)
