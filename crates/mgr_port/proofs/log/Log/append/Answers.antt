use Rattle.mgr_port.proofs.FolderLaws.{on_err}
use Rattle.mgr_port.proofs.GrowthLaws.{adds_front, adds_all}
use Rattle.mgr_port.proofs.log.Log.append.Goals as goal

pub returns-in_err-add_lines-clause-begun : goal.returns-in_err-add_lines-clause-begun
returns-in_err-add_lines-clause-begun g c = on_err _ (adds_front _ _ _ _ _ c.check_growth.ensures.quiet c.in_err-add_lines.ensures.step)

pub returns-in_err-self-clause-begun : goal.returns-in_err-self-clause-begun
returns-in_err-self-clause-begun g c = on_err _ (adds_all _ _ _ _ _ _ c.check_growth.ensures.quiet c.in_ok-add_lines.ensures.step c.left_longer.ensures.quiet)
