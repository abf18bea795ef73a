use Rattle.mgr_port.proofs.PlaceLaws.{at_chain, at_left, at_quiet, at_removal, at_way}
use Rattle.mgr_port.proofs.log.Log.make_room.Goals as goal

pub returns-in_err-remove_second_name-clause-only : goal.returns-in_err-remove_second_name-clause-only
returns-in_err-remove_second_name-clause-only g c = at_removal _ _ _ _ _ c.in_err-remove_second_name.ensures.tried

pub returns-in_err-stands_for-clause-only : goal.returns-in_err-stands_for-clause-only
returns-in_err-stands_for-clause-only g c = at_chain _ _ _ _ (at_removal _ _ _ _ _ c.in_ok-remove_second_name.ensures.tried) (at_quiet _ _ _ c.in_err-stands_for.ensures.quiet)

pub returns-in_err-make_way-clause-only : goal.returns-in_err-make_way-clause-only
returns-in_err-make_way-clause-only g c =
    at_chain _ _ _ _ (at_chain _ _ _ _ (at_removal _ _ _ _ _ c.in_ok-remove_second_name.ensures.tried) (at_quiet _ _ _ c.in_ok-stands_for.ensures.quiet)) (at_left _ _ _ c.in_err-make_way.ensures.kept)

pub returns-in_ok-make_way-clause-only : goal.returns-in_ok-make_way-clause-only
returns-in_ok-make_way-clause-only g c =
    at_chain _ _ _ _ (at_chain _ _ _ _ (at_removal _ _ _ _ _ c.in_ok-remove_second_name.ensures.tried) (at_quiet _ _ _ c.in_ok-stands_for.ensures.quiet)) (at_way _ _ _ c.in_ok-make_way.ensures.made)

pub returns-else-branch-clause-only : goal.returns-else-branch-clause-only
returns-else-branch-clause-only g c = at_chain _ _ _ _ (at_removal _ _ _ _ _ c.in_ok-remove_second_name.ensures.tried) (at_quiet _ _ _ c.in_ok-stands_for.ensures.quiet)
