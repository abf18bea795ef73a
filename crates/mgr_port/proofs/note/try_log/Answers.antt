use Rattle.mgr_port.proofs.PlaceLaws.{at_chain, at_path, at_quiet}
use Rattle.mgr_port.proofs.note.try_log.Goals as goal

pub returns-in_default-open_beside-clause-only : goal.returns-in_default-open_beside-clause-only
returns-in_default-open_beside-clause-only g c =
    at_chain _ _ _ _ (at_quiet _ _ _ c.in_ok-file.ensures.quiet) (at_path _ _ _ _ c.as_str-path.ensures.value c.open_beside.ensures.only)

pub returns-in-Ok-lock_next-clause-only : goal.returns-in-Ok-lock_next-clause-only
returns-in-Ok-lock_next-clause-only g c =
    at_chain _ _ _ _ (at_quiet _ _ _ c.in_ok-file.ensures.quiet)
    (at_path _ _ _ _ c.as_str-path.ensures.value (at_chain _ _ _ _ c.open_beside.ensures.only c.lock_next.ensures.only))

pub returns-in-Err-clause-only : goal.returns-in-Err-clause-only
returns-in-Err-clause-only g c =
    at_chain _ _ _ _ (at_quiet _ _ _ c.in_ok-file.ensures.quiet)
    (at_path _ _ _ _ c.as_str-path.ensures.value (at_chain _ _ _ _ c.open_beside.ensures.only c.lock_next.ensures.only))

pub returns-clause-only : goal.returns-clause-only
returns-clause-only g c =
    at_chain _ _ _ _ (at_quiet _ _ _ c.in_ok-file.ensures.quiet)
    (at_path _ _ _ _ c.as_str-path.ensures.value (at_chain _ _ _ _ c.open_beside.ensures.only c.lock_next.ensures.only))
