use Rattle.mgr_port.proofs.PlaceLaws.{at_chain, at_removal, then_look}
use Rattle.mgr_port.proofs.note.lock_next.Goals as goal

pub returns-then-is_some-clause-only : goal.returns-then-is_some-clause-only
returns-then-is_some-clause-only g c =
    at_chain _ _ _ _ (then_look _ _ _ _ _ c.in_ok-hold_empty.ensures.only c.in_ok-follow.ensures.step tt) (at_removal _ _ _ _ _ c.remove_open.ensures.tried)

pub returns-clause-only : goal.returns-clause-only
returns-clause-only g c = then_look _ _ _ _ _ c.in_ok-hold_empty.ensures.only c.in_ok-follow.ensures.step tt
