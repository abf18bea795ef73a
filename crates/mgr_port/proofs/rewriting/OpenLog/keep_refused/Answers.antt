use Rattle.std.proofs.Common.{inr, refl}
use Rattle.mgr_port.proofs.PlaceLaws.{fits_puts, puts_begun, puts_chain, puts_look, puts_may, puts_none, puts_step, puts_waits, waits_fits}
use Rattle.mgr_port.proofs.rewriting.OpenLog.keep_refused.Goals as goal

pub returns-in_err-end_line-clause-only : goal.returns-in_err-end_line-clause-only
returns-in_err-end_line-clause-only g c = (_, λ name. puts_chain _ _ name _ _ _ (puts_waits _ _ name _ _ (waits_fits _ _ name _ _ c.in_ok-refused.ensures.fits)) (c.in_err-end_line.ensures.only _ name))

pub returns-in_err-write-clause-only : goal.returns-in_err-write-clause-only
returns-in_err-write-clause-only g c = (
  _,
  λ name.
      puts_begun _ _ name _ _ _ _ (puts_chain _ _ name _ _ _ (puts_waits _ _ name _ _ (waits_fits _ _ name _ _ c.in_ok-refused.ensures.fits)) (c.in_ok-end_line.ensures.only _ name)) c.in_err-write.ensures.step,
)

pub returns-in_err-sync-clause-only : goal.returns-in_err-sync-clause-only
returns-in_err-sync-clause-only g c = (
  _,
  λ name.
      let written = puts_step _ _ name _ _ _ _ (puts_chain _ _ name _ _ _ (puts_waits _ _ name _ _ (waits_fits _ _ name _ _ c.in_ok-refused.ensures.fits)) (c.in_ok-end_line.ensures.only _ name)) c.in_ok-write.ensures.step refl in
      puts_chain _ _ name _ _ _ written (puts_none _ _ name _ _ c.in_err-sync.ensures.step),
)

pub returns-clause-only : goal.returns-clause-only
returns-clause-only g c = (
  _,
  λ name.
      let written = puts_step _ _ name _ _ _ _ (puts_chain _ _ name _ _ _ (puts_waits _ _ name _ _ (waits_fits _ _ name _ _ c.in_ok-refused.ensures.fits)) (c.in_ok-end_line.ensures.only _ name)) c.in_ok-write.ensures.step refl in
      puts_may _ _ name _ _ _ _ _ (puts_look _ _ name _ _ _ _ written c.in_ok-sync.ensures.step tt) c.sync_folder.ensures.step (λ _. inr tt),
)

pub returns-in_err-refused-clause-only : goal.returns-in_err-refused-clause-only
returns-in_err-refused-clause-only g c = fits_puts _ _ _ _ c.in_err-refused.ensures.only
