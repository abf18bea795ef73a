use Rattle.mgr_port.proofs.PlaceLaws.{at_chain}
use Rattle.mgr_port.proofs.locking.try_beside.Goals as goal

pub returns-in_err-hold_empty-clause-only : goal.returns-in_err-hold_empty-clause-only
returns-in_err-hold_empty-clause-only g c = at_chain _ _ _ _ c.in_ok-next.ensures.only c.in_err-hold_empty.ensures.only

pub returns-clause-only : goal.returns-clause-only
returns-clause-only g c = at_chain _ _ _ _ c.in_ok-next.ensures.only c.in_ok-hold_empty.ensures.only
