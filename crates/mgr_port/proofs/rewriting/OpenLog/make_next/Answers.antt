use Rattle.std.proofs.Common.{inl, inr, refl}
use Rattle.mgr_port.proofs.FolderLaws.{on_err}
use Rattle.mgr_port.proofs.PlaceLaws.{at_chain, at_none, at_removal, rights_chain, rights_look, rights_none}
use Rattle.mgr_port.proofs.rewriting.OpenLog.make_next.Goals as goal

pub returns-in_err-next-clause-only : goal.returns-in_err-next-clause-only
returns-in_err-next-clause-only g c = on_err _ (inl (at_chain _ _ _ _ (at_removal _ _ _ _ _ c.remove_second_name.ensures.tried) c.in_err-next.ensures.only))

pub returns-in_err-like-clause-only : goal.returns-in_err-like-clause-only
returns-in_err-like-clause-only g c =
    on_err _ (inl (at_chain _ _ _ _ (at_chain _ _ _ _ (at_removal _ _ _ _ _ c.remove_second_name.ensures.tried) c.in_ok-next.ensures.only) (at_none _ _ _ c.in_err-like.ensures.step)))

pub returns-in_err-take_mode-clause-only : goal.returns-in_err-take_mode-clause-only
returns-in_err-take_mode-clause-only g c =
    let taken = at_chain _ _ _ _ (at_removal _ _ _ _ _ c.remove_second_name.ensures.tried) c.in_ok-next.ensures.only in
    let rights = rights_chain _ _ _ _ (rights_look _ _ _ _ _ (rights_none _ _ _ refl) c.in_ok-like.ensures.step tt) c.in_err-take_mode.ensures.only in
    on_err _ (inr (_, _, taken, c.in_ok-next.ensures.held, rights))
