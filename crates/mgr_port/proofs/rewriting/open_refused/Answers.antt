use Rattle.std.proofs.Common.{inl, inr, refl}
use Rattle.mgr_port.proofs.FolderLaws.{on_err}
use Rattle.mgr_port.proofs.PlaceLaws.{at_chain, at_idle, at_none, fits_at, fits_chain, fits_rights, rights_chain, rights_look, rights_none, then_opened_fits}
use Rattle.mgr_port.proofs.RewritingLaws.{opened_new, opened_there}
use Rattle.mgr_port.proofs.rewriting.open_refused.Goals as goal

pub returns-clause-opened : goal.returns-clause-opened
returns-clause-opened g c = opened_new _ _ _ _ _ _ _ _ _ _ c.in_ok-is_plain_there.ensures.shown c.if-branch.false c.in_ok-refused.ensures.opened c.in_ok-like.ensures.step c.in_ok-take_mode.ensures.taken

pub returns-then-branch-clause-opened : goal.returns-then-branch-clause-opened
returns-then-branch-clause-opened g c = opened_there c.open_beside.result g.F.Folder.file_of _ _ _ _ _ _ c.in_ok-is_plain_there.ensures.shown c.if-branch.true c.open_beside.ensures.opened

pub returns-then-branch-clause-fits : goal.returns-then-branch-clause-fits
returns-then-branch-clause-fits g c = then_opened_fits c.open_beside.result g.F.Folder.file_of _ _ _ _ (at_idle _ _ _ c.in_ok-is_plain_there.ensures.idle) c.open_beside.ensures.only

pub returns-clause-fits : goal.returns-clause-fits
returns-clause-fits g c =
    let opened = at_chain _ _ _ _ (at_idle _ _ _ c.in_ok-is_plain_there.ensures.idle) c.in_ok-refused.ensures.only in
    let rights = rights_chain _ _ _ _ (rights_look _ _ _ _ _ (rights_none _ _ _ refl) c.in_ok-like.ensures.step tt) c.in_ok-take_mode.ensures.only in
    fits_chain _ _ _ _ _ (fits_at _ _ _ _ opened) (fits_rights _ _ _ _ rights)

pub returns-then-branch-clause-only : goal.returns-then-branch-clause-only
returns-then-branch-clause-only g c = on_err _ (inl (at_chain _ _ _ _ (at_idle _ _ _ c.in_ok-is_plain_there.ensures.idle) c.open_beside.ensures.only))

pub returns-in_err-is_plain_there-clause-only : goal.returns-in_err-is_plain_there-clause-only
returns-in_err-is_plain_there-clause-only g c = on_err _ (inl (at_idle _ _ _ c.in_err-is_plain_there.ensures.idle))

pub returns-in_err-refused-clause-only : goal.returns-in_err-refused-clause-only
returns-in_err-refused-clause-only g c = on_err _ (inl (at_chain _ _ _ _ (at_idle _ _ _ c.in_ok-is_plain_there.ensures.idle) c.in_err-refused.ensures.only))

pub returns-in_err-like-clause-only : goal.returns-in_err-like-clause-only
returns-in_err-like-clause-only g c =
    on_err _ (inl (at_chain _ _ _ _ (at_chain _ _ _ _ (at_idle _ _ _ c.in_ok-is_plain_there.ensures.idle) c.in_ok-refused.ensures.only) (at_none _ _ _ c.in_err-like.ensures.step)))

pub returns-in_err-take_mode-clause-only : goal.returns-in_err-take_mode-clause-only
returns-in_err-take_mode-clause-only g c =
    let opened = at_chain _ _ _ _ (at_idle _ _ _ c.in_ok-is_plain_there.ensures.idle) c.in_ok-refused.ensures.only in
    let rights = rights_chain _ _ _ _ (rights_look _ _ _ _ _ (rights_none _ _ _ refl) c.in_ok-like.ensures.step tt) c.in_err-take_mode.ensures.only in
    on_err _ (inr (_, _, opened, (_, c.in_ok-refused.ensures.opened), rights))
