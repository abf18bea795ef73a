use Rattle.std.proofs.Common.{inl, inr, refl}
use Rattle.mgr_port.proofs.FolderLaws.{only_chain, only_none}
use Rattle.mgr_port.proofs.GrowthLaws.{adds_front, quiet_sync, quiet_sync_look_at}
use Rattle.mgr_port.proofs.PlaceLaws.{given_text}
use Rattle.mgr_port.proofs.text.Text.put_in_place.Goals as goal

pub returns-clause-put : goal.returns-clause-put
returns-clause-put g c =
    let written = rw c.in_ok-spare.ensures.path at c.in_ok-file.ensures.step in
    (_, _, _, _, _, _, c.in_ok-spare.ensures.kept, written, c.in_ok-write.ensures.step, c.in_ok-sync_dated.ensures.synced, c.in_ok-look_at.ensures.step, refl)

pub returns-in_err-spare-clause-only : goal.returns-in_err-spare-clause-only
returns-in_err-spare-clause-only g c = (0, inl c.in_err-spare.ensures.idle)

pub returns-in_err-file-clause-only : goal.returns-in_err-file-clause-only
returns-in_err-file-clause-only g c = (0, inr (_, c.in_ok-spare.ensures.kept, inl c.in_err-file.ensures.step))

pub returns-in_err-write-clause-only : goal.returns-in_err-write-clause-only
returns-in_err-write-clause-only g c =
    let over = rw c.in_ok-spare.ensures.path at c.in_ok-file.ensures.step in
    (_, inr (_, c.in_ok-spare.ensures.kept, inr (_, over, inl (adds_front _ _ _ _ _ (only_none _ _ refl) c.in_err-write.ensures.step))))

pub returns-in_err-sync_dated-clause-only : goal.returns-in_err-sync_dated-clause-only
returns-in_err-sync_dated-clause-only g c =
    let over = rw c.in_ok-spare.ensures.path at c.in_ok-file.ensures.step in
    (_, inr (_, c.in_ok-spare.ensures.kept, inr (_, over, inr (_, _, c.in_ok-write.ensures.step, c.in_err-sync_dated.ensures.dated, only_none _ _ refl))))

pub returns-in_err-look_at-clause-only : goal.returns-in_err-look_at-clause-only
returns-in_err-look_at-clause-only g c =
    let over = rw c.in_ok-spare.ensures.path at c.in_ok-file.ensures.step in
    let (dated, may, is) = c.in_ok-sync_dated.ensures.synced in
    let later = only_chain _ _ _ (quiet_sync _ _ _ is) (only_none _ _ c.in_err-look_at.ensures.step) in
    (_, inr (_, c.in_ok-spare.ensures.kept, inr (_, over, inr (_, dated, c.in_ok-write.ensures.step, may, later))))

pub returns-clause-only : goal.returns-clause-only
returns-clause-only g c =
    let over = rw c.in_ok-spare.ensures.path at c.in_ok-file.ensures.step in
    let (dated, may, is) = c.in_ok-sync_dated.ensures.synced in
    let later = quiet_sync_look_at _ _ _ _ _ is c.in_ok-look_at.ensures.step in
    (_, inr (_, c.in_ok-spare.ensures.kept, inr (_, over, inr (_, dated, c.in_ok-write.ensures.step, may, later))))

pub overwrite-requires-clause-given : goal.overwrite-requires-clause-given
overwrite-requires-clause-given g c = given_text _ _ _ _ _ _ c.in_ok-spare.ensures.path c.in_ok-spare.ensures.kept
