use Rattle.mgr_port.specs.Folder.{IsIdle}
use Rattle.mgr_port.proofs.keeping.keep.Given as goal

abbrev pub invariant-loop-number : goal.invariant-loop-number
invariant-loop-number g l = IsIdle (g.F.Folder.steps l.fn.folder) (g.F.Folder.steps l.folder)
