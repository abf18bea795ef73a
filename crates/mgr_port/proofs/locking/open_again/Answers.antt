use Rattle.mgr_port.proofs.FolderLaws.{only_chain}
use Rattle.mgr_port.proofs.locking.open_again.Goals as goal

pub returns-in_default-clause-quiet : goal.returns-in_default-clause-quiet
returns-in_default-clause-quiet g c = only_chain _ _ _ c.loop.invariant c.open_locked.ensures.quiet

pub loop-preserved : goal.loop-preserved
loop-preserved g c = only_chain _ _ _ c.loop.invariant c.open_locked.ensures.quiet
