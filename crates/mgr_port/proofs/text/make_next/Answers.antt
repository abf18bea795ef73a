use Rattle.std.proofs.Common.{refl}
use Rattle.mgr_port.proofs.PlaceLaws.{at_look, at_none, fits_at, new_at, new_later, new_made, new_path}
use Rattle.mgr_port.proofs.text.make_next.Goals as goal

pub returns-in_err-make_beside-in-None-clause-only : goal.returns-in_err-make_beside-in-None-clause-only
returns-in_err-make_beside-in-None-clause-only g c =
    new_later _ _ _ _ (at_look _ _ _ _ c.in_ok-look.ensures.step tt) (new_path _ _ _ _ c.as_str-path.ensures.value (new_at _ _ _ c.in_err-make_beside-in-None.ensures.only))

pub returns-in_ok-make_beside-in-None-clause-only : goal.returns-in_ok-make_beside-in-None-clause-only
returns-in_ok-make_beside-in-None-clause-only g c =
    new_later _ _ _ _ (at_look _ _ _ _ c.in_ok-look.ensures.step tt) (new_path _ _ _ _ c.as_str-path.ensures.value (new_made _ _ _ _ _ _ c.in_ok-make_beside-in-None.ensures.made (fits_at _ _ _ _ (at_none _ _ _ refl))))

pub returns-in-Some-clause-only : goal.returns-in-Some-clause-only
returns-in-Some-clause-only g c =
    new_later _ _ _ _ (at_look _ _ _ _ c.in_ok-look.ensures.step tt) (new_path _ _ _ _ c.as_str-path.ensures.value c.make_like.ensures.only)

pub returns-in-Some-2-clause-only : goal.returns-in-Some-2-clause-only
returns-in-Some-2-clause-only g c = new_at _ _ _ (at_look _ _ _ _ c.in_ok-look.ensures.step tt)
