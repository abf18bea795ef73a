use Rattle.mgr_port.proofs.FolderLaws.{on_err}
use Rattle.mgr_port.proofs.PlaceLaws.{at_failed, at_left, at_way}
use Rattle.mgr_port.proofs.vacating.make_beside.Goals as goal

pub returns-in_err-make_way-clause-only : goal.returns-in_err-make_way-clause-only
returns-in_err-make_way-clause-only g c = on_err _ (at_left _ _ _ c.in_err-make_way.ensures.kept)

pub returns-clause-only : goal.returns-clause-only
returns-clause-only g c = at_failed _ _ _ _ _ _ (at_way _ _ _ c.in_ok-make_way.ensures.made) c.open.ensures.step
