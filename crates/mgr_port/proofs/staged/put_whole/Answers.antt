use Rattle.mgr_port.proofs.FolderLaws.{on_err}
use Rattle.mgr_port.proofs.StagingLaws.{stops_unwritten}
use Rattle.mgr_port.proofs.staged.put_whole.Goals as goal

pub returns-in_err-write-clause-unnamed : goal.returns-in_err-write-clause-unnamed
returns-in_err-write-clause-unnamed g c = on_err _ (stops_unwritten _ _ c.args.staged _ _ _ _ c.in_ok-empty.ensures.step c.in_err-write.ensures.step)
