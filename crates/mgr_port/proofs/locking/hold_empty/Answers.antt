use Rattle.std.proofs.Common.{inl, inr}
use Rattle.mgr_port.proofs.FolderLaws.{quiet_then_look_at}
use Rattle.mgr_port.proofs.PlaceLaws.{at_chain, at_left, at_quiet, at_way, then_look}
use Rattle.mgr_port.proofs.locking.hold_empty.Goals as goal

pub returns-then-branch-eq0-clause-only : goal.returns-then-branch-eq0-clause-only
returns-then-branch-eq0-clause-only g c = then_look _ _ _ _ _ (at_quiet _ _ _ c.in_ok-hold.ensures.quiet) c.in_ok-look_at.ensures.step tt

pub returns-in-Ok-clause-only : goal.returns-in-Ok-clause-only
returns-in-Ok-clause-only g c =
    at_chain _ _ _ _ (then_look _ _ _ _ _ (at_quiet _ _ _ c.in_ok-hold.ensures.quiet) c.in_ok-look_at.ensures.step tt) (at_way _ _ _ c.in-Ok.ensures.made)

pub returns-in-Err-clause-only : goal.returns-in-Err-clause-only
returns-in-Err-clause-only g c =
    at_chain _ _ _ _ (then_look _ _ _ _ _ (at_quiet _ _ _ c.in_ok-hold.ensures.quiet) c.in_ok-look_at.ensures.step tt) (at_left _ _ _ c.in-Err.ensures.kept)

pub returns-in-Err-2-clause-only : goal.returns-in-Err-2-clause-only
returns-in-Err-2-clause-only g c =
    at_chain _ _ _ _ (then_look _ _ _ _ _ (at_quiet _ _ _ c.in_ok-hold.ensures.quiet) c.in_ok-look_at.ensures.step tt) (at_left _ _ _ c.in-Err-2.ensures.kept)

pub returns-in-Ok-clause-cleared : goal.returns-in-Ok-clause-cleared
returns-in-Ok-clause-cleared g c = inr (_, quiet_then_look_at _ _ _ _ _ c.in_ok-hold.ensures.quiet c.in_ok-look_at.ensures.step, inl c.in-Ok.ensures.made)

pub returns-in-Err-clause-cleared : goal.returns-in-Err-clause-cleared
returns-in-Err-clause-cleared g c = inr (_, quiet_then_look_at _ _ _ _ _ c.in_ok-hold.ensures.quiet c.in_ok-look_at.ensures.step, inr c.in-Err.ensures.kept)

pub returns-in-Err-2-clause-cleared : goal.returns-in-Err-2-clause-cleared
returns-in-Err-2-clause-cleared g c = inr (_, quiet_then_look_at _ _ _ _ _ c.in_ok-hold.ensures.quiet c.in_ok-look_at.ensures.step, inr c.in-Err-2.ensures.kept)
