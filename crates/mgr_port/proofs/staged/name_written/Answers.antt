use Rattle.mgr_port.proofs.FolderLaws.{on_err}
use Rattle.mgr_port.proofs.StagingLaws.{stops_behind, stops_dated}
use Rattle.mgr_port.proofs.staged.name_written.Goals as goal

pub returns-in-Ok-clause-named : goal.returns-in-Ok-clause-named
returns-in-Ok-clause-named g c =
    let named = c.in_ok-give_name.ensures.named (g.F.Folder.file_of c.args.next.now) in
    (_, c.in_ok-sync_dated.ensures.synced, (_, named.1, (_, named.2, c.in-Ok.ensures.step)))

pub returns-in-Err-clause-named : goal.returns-in-Err-clause-named
returns-in-Err-clause-named g c =
    let named = c.in_ok-give_name.ensures.named (g.F.Folder.file_of c.args.next.now) in
    (_, c.in_ok-sync_dated.ensures.synced, rw c.in-Err.ensures.step named)

pub returns-in_err-give_name-clause-unnamed : goal.returns-in_err-give_name-clause-unnamed
returns-in_err-give_name-clause-unnamed g c =
    on_err _ (stops_behind _ _ c.args.staged _ _ _ _ _ c.in_ok-sync_dated.ensures.synced (c.in_err-give_name.ensures.unnamed _))

pub returns-in_err-sync_dated-clause-unnamed : goal.returns-in_err-sync_dated-clause-unnamed
returns-in_err-sync_dated-clause-unnamed g c = on_err _ (stops_dated _ _ c.args.staged _ _ _ c.in_err-sync_dated.ensures.dated)
