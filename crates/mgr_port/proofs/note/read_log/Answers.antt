use Rattle.std.proofs.Common.{refl}
use Rattle.mgr_port.proofs.PlaceLaws.{at_chain, at_none, at_quiet, at_removal, then_step}
use Rattle.mgr_port.proofs.note.read_log.Goals as goal

pub returns-in_err-log-clause-only : goal.returns-in_err-log-clause-only
returns-in_err-log-clause-only g c = at_chain _ _ _ _ (then_step _ _ _ _ _ (at_none _ _ _ refl) c.in_ok-bytes.ensures.step tt) (at_quiet _ _ _ c.in_err-log.ensures.quiet)

pub returns-clause-only : goal.returns-clause-only
returns-clause-only g c =
    at_chain _ _ _ _
    (at_chain _ _ _ _ (then_step _ _ _ _ _ (at_none _ _ _ refl) c.in_ok-bytes.ensures.step tt) (at_quiet _ _ _ c.in_ok-log.ensures.quiet))
    (at_removal _ _ _ _ _ c.give_up.ensures)
