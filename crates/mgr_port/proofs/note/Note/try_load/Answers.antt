use Rattle.mgr_port.proofs.NotesLaws.{loaded}
use Rattle.mgr_port.proofs.PlaceLaws.{at_chain, at_path, at_quiet}
use Rattle.mgr_port.proofs.note.Note.try_load.Goals as goal

pub returns-clause-read : goal.returns-clause-read
returns-clause-read g c = loaded _ _ _ g.F.Folder.file_of _ _ _ _ _ _ _ _ c.in-Some.is c.in_ok-log.ensures.locked.0 c.as_str-2.ensures.value c.in_ok-log-2.ensures.file c.in_ok-log-2.ensures.read c.take_beside.ensures.quiet

pub returns-in_err-text-clause-only : goal.returns-in_err-text-clause-only
returns-in_err-text-clause-only g c = at_chain _ _ _ _ c.in_ok-log.ensures.only (at_quiet _ _ _ c.in_err-text.ensures.quiet)

pub returns-in_default-clause-only : goal.returns-in_default-clause-only
returns-in_default-clause-only g c = at_chain _ _ _ _ c.in_ok-log.ensures.only (at_quiet _ _ _ c.in_ok-text.ensures.quiet)

pub returns-in_err-log-2-clause-only : goal.returns-in_err-log-2-clause-only
returns-in_err-log-2-clause-only g c = at_chain _ _ _ _ c.in_ok-log.ensures.only (at_path _ _ _ _ c.as_str-2.ensures.value c.in_err-log-2.ensures.only)

pub returns-in_err-text-2-clause-only : goal.returns-in_err-text-2-clause-only
returns-in_err-text-2-clause-only g c =
    at_chain _ _ _ _ (at_chain _ _ _ _ c.in_ok-log.ensures.only (at_path _ _ _ _ c.as_str-2.ensures.value c.in_ok-log-2.ensures.only)) (at_quiet _ _ _ c.take_beside.ensures.quiet)

pub returns-clause-only : goal.returns-clause-only
returns-clause-only g c =
    at_chain _ _ _ _ (at_chain _ _ _ _ c.in_ok-log.ensures.only (at_path _ _ _ _ c.as_str-2.ensures.value c.in_ok-log-2.ensures.only)) (at_quiet _ _ _ c.take_beside.ensures.quiet)

pub returns-clause-beside : goal.returns-clause-beside
returns-clause-beside g c = rw c.as_str-3.ensures.value at c.in_ok-text-2.ensures.own
