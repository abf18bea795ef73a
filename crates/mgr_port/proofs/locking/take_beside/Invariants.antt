use Rattle.mgr_port.specs.Spares.{ChangesOnlyAt}
use Rattle.mgr_port.proofs.locking.take_beside.Given as goal

abbrev pub invariant-loop : goal.invariant-loop
invariant-loop g l = ChangesOnlyAt l.fn.path (g.F.Folder.steps l.fn.folder) (g.F.Folder.steps l.folder)
