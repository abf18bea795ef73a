use Rattle.mgr_port.specs.Folder.{IsQuiet}
use Rattle.mgr_port.proofs.locking.open_again.Given as goal

abbrev pub invariant-loop : goal.invariant-loop
invariant-loop g l = IsQuiet (g.F.Folder.steps l.fn.folder) (g.F.Folder.steps l.folder)
