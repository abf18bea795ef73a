use Rattle.mgr_port.proofs.FolderLaws.{only_chain}
use Rattle.mgr_port.proofs.keeping.keep.Goals as goal

pub returns-in-Err-2-clause-idle : goal.returns-in-Err-2-clause-idle
returns-in-Err-2-clause-idle g c = only_chain _ _ _ c.loop-number.invariant c.in-Err-2.ensures.idle

pub loop-number-preserved : goal.loop-number-preserved
loop-number-preserved g c = only_chain _ _ _ c.loop-number.invariant c.in-Err.ensures.idle
