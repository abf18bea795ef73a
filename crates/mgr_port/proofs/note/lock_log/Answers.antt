use Rattle.std.proofs.Common.{refl}
use Rattle.mgr_port.proofs.PlaceLaws.{at_chain, at_none}
use Rattle.mgr_port.proofs.note.lock_log.Goals as goal

pub loop-init : goal.loop-init
loop-init g c = at_none _ _ _ refl

pub loop-preserved : goal.loop-preserved
loop-preserved g c = at_chain _ _ _ _ c.loop.invariant c.try_log.ensures.only

pub returns-in_default-clause-only : goal.returns-in_default-clause-only
returns-in_default-clause-only g c = at_chain _ _ _ _ c.loop.invariant c.try_log.ensures.only

pub returns-in_default-2-clause-only : goal.returns-in_default-2-clause-only
returns-in_default-2-clause-only g c = at_chain _ _ _ _ c.loop.invariant c.try_log.ensures.only

pub returns-clause-only : goal.returns-clause-only
returns-clause-only g c = c.loop.invariant
