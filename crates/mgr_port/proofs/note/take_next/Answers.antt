use Rattle.std.proofs.Common.{refl}
use Rattle.mgr_port.specs.Spares.{ChangesOnlyAt}
use Rattle.mgr_port.proofs.PlaceLaws.{at_chain, at_none, at_quiet}
use Rattle.mgr_port.proofs.note.take_next.Goals as goal
use Rattle.mgr_port.proofs.note.take_next.Goals.{in-Some+in_ok-stands_for+else-branch, in_default}

pub returns-clause-only : goal.returns-clause-only
returns-clause-only g c =
    let before : ChangesOnlyAt c.args.path.now (g.F.Folder.steps c.args.folder.now) (g.F.Folder.steps c.match-take.folder) = elim c.match-take.branch [
      | in-Some+in_ok-stands_for+else-branch w ↦ rw w.folder-is (at_quiet _ _ _ w.in_ok-stands_for.ensures.quiet)
      | in_default w ↦ rw w.folder-is (at_none _ _ _ refl)
    ] in
    at_chain _ _ _ _ before c.take_beside.ensures.only
