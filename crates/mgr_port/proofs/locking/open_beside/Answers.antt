use Rattle.std.proofs.Common.{◌∙◌, refl}
use Rattle.mgr_port.specs.Spares.{ChangesOnlyAt}
use Rattle.mgr_port.proofs.PlaceLaws.{at_chain, at_look, at_none, go_no_file, then_may, then_step}
use Rattle.mgr_port.proofs.locking.open_beside.Goals as goal
use Rattle.mgr_port.proofs.locking.open_beside.Goals.{in-Some+in_ok-remove, in_default}

pub returns-in_err-remove-clause-only : goal.returns-in_err-remove-clause-only
returns-in_err-remove-clause-only g c = at_chain _ _ _ _ (at_look _ _ _ _ c.in_ok-look.ensures.step tt) (at_none _ _ _ c.in_err-remove.ensures.step)

pub returns-clause-only : goal.returns-clause-only
returns-clause-only g c =
    let before : ChangesOnlyAt c.args.path.now (g.F.Folder.steps c.args.folder.now) (g.F.Folder.steps c.match-if_no_file.folder) = elim c.match-if_no_file.branch [
      | in-Some+in_ok-remove w ↦ rw w.folder-is
          (then_step _ _ _ _ _ (at_look _ _ _ _ c.in_ok-look.ensures.step tt) w.in_ok-remove.ensures.step (w.in-Some.ensures.path.is_path ∙ c.in_ok-look.ensures.path))
      | in_default w ↦ rw w.folder-is (at_look _ _ _ _ c.in_ok-look.ensures.step tt)
    ] in
    then_may _ _ _ _ _ _ before c.open.ensures.step (λ _. refl)

pub remove-requires : goal.remove-requires
remove-requires g c = go_no_file _ _ _ _ _ _ c.in-Some.ensures.path.is_path c.in_ok-look.ensures.path c.in_ok-look.ensures.step (c.in-Some.ensures.exact.0 refl)
