use Rattle.mgr_port.proofs.GrowthLaws.{quiet_longer}
use Rattle.mgr_port.proofs.log.left_longer.Goals as goal

pub returns-in_err-check_growth-clause-quiet : goal.returns-in_err-check_growth-clause-quiet
returns-in_err-check_growth-clause-quiet g c = quiet_longer _ _ _ _ _ _ _ _ _ _ c.sync.ensures.step c.in_ok-stamp.ensures.step c.in_ok-end.ensures.step c.check_growth.ensures.quiet

pub returns-in-Some-clause-quiet : goal.returns-in-Some-clause-quiet
returns-in-Some-clause-quiet g c = quiet_longer _ _ _ _ _ _ _ _ _ _ c.sync.ensures.step c.in_ok-stamp.ensures.step c.in_ok-end.ensures.step c.check_growth.ensures.quiet

pub returns-in_default-clause-quiet : goal.returns-in_default-clause-quiet
returns-in_default-clause-quiet g c = quiet_longer _ _ _ _ _ _ _ _ _ _ c.sync.ensures.step c.in_ok-stamp.ensures.step c.in_ok-end.ensures.step c.check_growth.ensures.quiet
