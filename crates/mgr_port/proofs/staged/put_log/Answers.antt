use Rattle.mgr_port.proofs.FolderLaws.{on_err}
use Rattle.mgr_port.proofs.StagingLaws.{stops_unwritten}
use Rattle.mgr_port.proofs.staged.put_log.Goals as goal

pub returns-in_err-write_lines-clause-unnamed : goal.returns-in_err-write_lines-clause-unnamed
returns-in_err-write_lines-clause-unnamed g c = on_err _ (stops_unwritten _ _ c.args.staged _ _ _ _ c.in_ok-empty.ensures.step c.in_err-write_lines.ensures.step)
