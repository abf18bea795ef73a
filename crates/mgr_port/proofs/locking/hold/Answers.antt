use Rattle.mgr_port.proofs.FolderLaws.{quiet_hold, quiet_lock}
use Rattle.mgr_port.proofs.locking.hold.Goals as goal

pub returns-in_err-check_lock-clause-quiet : goal.returns-in_err-check_lock-clause-quiet
returns-in_err-check_lock-clause-quiet g c = quiet_lock _ _ _ _ c.in_ok-lock.ensures.step

pub returns-in_err-stands_for-clause-quiet : goal.returns-in_err-stands_for-clause-quiet
returns-in_err-stands_for-clause-quiet g c = quiet_hold _ _ _ _ _ c.in_ok-lock.ensures.step c.stands_for.ensures.quiet

pub returns-then-not-branch-clause-quiet : goal.returns-then-not-branch-clause-quiet
returns-then-not-branch-clause-quiet g c = quiet_hold _ _ _ _ _ c.in_ok-lock.ensures.step c.stands_for.ensures.quiet

pub returns-clause-quiet : goal.returns-clause-quiet
returns-clause-quiet g c = quiet_hold _ _ _ _ _ c.in_ok-lock.ensures.step c.stands_for.ensures.quiet
