use Rattle.std.proofs.Common.{refl}
use Rattle.mgr_port.proofs.PlaceLaws.{at_none, at_removal, fits_at, fits_chain, fits_rights, new_made, rights_chain, rights_none, rights_owner, rights_step}
use Rattle.mgr_port.proofs.text.make_like.Goals as goal

pub returns-in_err-take_owner-clause-only : goal.returns-in_err-take_owner-clause-only
returns-in_err-take_owner-clause-only g c = new_made _ _ _ _ _ _ c.in-Ok.ensures.made (fits_at _ _ _ _ (at_none _ _ _ c.in_err-take_owner.ensures.same))

pub returns-in_err-remove_open-clause-only : goal.returns-in_err-remove_open-clause-only
returns-in_err-remove_open-clause-only g c =
    new_made _ _ _ _ _ _ c.in-Ok.ensures.made
    (fits_chain _ _ _ _ _ (fits_rights _ _ _ _ (rights_owner _ _ _ _ _ c.in_ok-take_owner.ensures.taken)) (fits_at _ _ _ _ (at_removal _ _ _ _ _ c.in_err-remove_open.ensures.tried)))

pub returns-then-not-branch-clause-only : goal.returns-then-not-branch-clause-only
returns-then-not-branch-clause-only g c =
    new_made _ _ _ _ _ _ c.in-Ok.ensures.made
    (fits_chain _ _ _ _ _ (fits_rights _ _ _ _ (rights_owner _ _ _ _ _ c.in_ok-take_owner.ensures.taken)) (fits_at _ _ _ _ (at_removal _ _ _ _ _ c.in_ok-remove_open.ensures.tried)))

pub returns-in_err-set_mode-clause-only : goal.returns-in_err-set_mode-clause-only
returns-in_err-set_mode-clause-only g c =
    new_made _ _ _ _ _ _ c.in-Ok.ensures.made
    (fits_rights _ _ _ _ (rights_chain _ _ _ _ (rights_owner _ _ _ _ _ c.in_ok-take_owner.ensures.taken) (rights_none _ _ _ c.in_err-set_mode.ensures.step)))

pub returns-clause-only : goal.returns-clause-only
returns-clause-only g c =
    new_made _ _ _ _ _ _ c.in-Ok.ensures.made
    (fits_rights _ _ _ _ (rights_step _ _ _ _ _ (rights_owner _ _ _ _ _ c.in_ok-take_owner.ensures.taken) c.in_ok-set_mode.ensures.step refl))
