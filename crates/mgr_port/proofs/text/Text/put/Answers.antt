use Rattle.std.proofs.Common.{inl, refl}
use Rattle.mgr_port.proofs.FolderLaws.{only_none}
use Rattle.mgr_port.proofs.NotesLaws.{put_in_place, tried_beside, tried_in_place}
use Rattle.mgr_port.proofs.PlaceLaws.{at_quiet, new_at, new_later}
use Rattle.mgr_port.proofs.text.Text.put.Goals as goal

pub returns-in_default-clause-put : goal.returns-in_default-clause-put
returns-in_default-clause-put g c = put_in_place _ _ _ _ _ _ _ _ _ _ _ _ c.as_str-path.ensures.value c.put_in_place.ensures.put

pub returns-in-Err-clause-put : goal.returns-in-Err-clause-put
returns-in-Err-clause-put g c = put_in_place _ _ _ _ _ _ _ _ _ _ _ _ c.as_str-path.ensures.value c.put_in_place-in-Err.ensures.put

pub returns-in_err-is_there-clause-only : goal.returns-in_err-is_there-clause-only
returns-in_err-is_there-clause-only g c = (0, (_, _, new_at _ _ _ (at_quiet _ _ _ c.in_err-is_there.ensures.quiet), inl refl, inl (only_none _ _ refl)))

pub returns-in_err-next-clause-only : goal.returns-in_err-next-clause-only
returns-in_err-next-clause-only g c = (
  0,
  (
    _,
    _,
    new_later _ _ _ _ (at_quiet _ _ _ c.in_ok-is_there.ensures.quiet) c.in_err-next.ensures.only,
    inl refl,
    inl (only_none _ _ refl),
  ),
)

pub returns-in_default-clause-only : goal.returns-in_default-clause-only
returns-in_default-clause-only g c =
    tried_in_place _ _ _ _ _ _ _ _ _ _ c.as_str-path.ensures.value (new_later _ _ _ _ (at_quiet _ _ _ c.in_ok-is_there.ensures.quiet) c.in_ok-next.ensures.only)
    (inl refl) c.put_in_place.ensures.only

pub returns-in-Err-clause-only : goal.returns-in-Err-clause-only
returns-in-Err-clause-only g c =
    tried_in_place _ _ _ _ _ _ _ _ _ _ c.as_str-path.ensures.value (new_later _ _ _ _ (at_quiet _ _ _ c.in_ok-is_there.ensures.quiet) c.in_ok-next.ensures.only)
    (tried_beside _ c.in-Some.next g.F.Folder.file_of _ _ _ _ _ _ _ _ _ c.in-Some.is c.in_ok-next.ensures.made c.put_beside.ensures.only c.put_beside.ensures.left) c.put_in_place-in-Err.ensures.only

pub returns-in_default-put_beside-clause-only : goal.returns-in_default-put_beside-clause-only
returns-in_default-put_beside-clause-only g c = (
  0,
  (
    _,
    _,
    new_later _ _ _ _ (at_quiet _ _ _ c.in_ok-is_there.ensures.quiet) c.in_ok-next.ensures.only,
    tried_beside _ c.in-Some.next g.F.Folder.file_of _ _ _ _ _ _ _ _ _ c.in-Some.is c.in_ok-next.ensures.made c.put_beside.ensures.only c.put_beside.ensures.left,
    inl (only_none _ _ refl),
  ),
)

pub returns-in_default-put_beside-2-clause-only : goal.returns-in_default-put_beside-2-clause-only
returns-in_default-put_beside-2-clause-only g c = (
  0,
  (
    _,
    _,
    new_later _ _ _ _ (at_quiet _ _ _ c.in_ok-is_there.ensures.quiet) c.in_ok-next.ensures.only,
    tried_beside _ c.in-Some.next g.F.Folder.file_of _ _ _ _ _ _ _ _ _ c.in-Some.is c.in_ok-next.ensures.made c.put_beside.ensures.only c.put_beside.ensures.left,
    inl (only_none _ _ refl),
  ),
)

pub returns-in_default-put_beside-clause-own : goal.returns-in_default-put_beside-clause-own
returns-in_default-put_beside-clause-own g c = (_, c.in-Err.ensures.own)
