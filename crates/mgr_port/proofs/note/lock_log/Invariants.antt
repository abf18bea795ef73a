use Rattle.std.specs.Prelude.{string_bytes}
use Rattle.mgr_port.specs.Spares.{ChangesOnlyAt}
use Rattle.mgr_port.proofs.note.lock_log.Given as goal

abbrev pub invariant-loop : goal.invariant-loop
invariant-loop g l = ChangesOnlyAt (string_bytes l.fn.paths.next_log) (g.F.Folder.steps l.fn.folder) (g.F.Folder.steps l.folder)
