use Rattle.mgr_port.proofs.FolderLaws.{quiet_follow_open}
use Rattle.mgr_port.proofs.locking.open_plain.Goals as goal

pub returns-in-Ok-clause-quiet : goal.returns-in-Ok-clause-quiet
returns-in-Ok-clause-quiet g c = quiet_follow_open _ _ _ _ _ c.in_ok-look.ensures.step c.open_as.ensures.quiet

pub returns-in-Err-clause-quiet : goal.returns-in-Err-clause-quiet
returns-in-Err-clause-quiet g c = quiet_follow_open _ _ _ _ _ c.in_ok-look.ensures.step c.open_as.ensures.quiet

pub returns-in-Err-2-clause-quiet : goal.returns-in-Err-2-clause-quiet
returns-in-Err-2-clause-quiet g c = quiet_follow_open _ _ _ _ _ c.in_ok-look.ensures.step c.open_as.ensures.quiet
