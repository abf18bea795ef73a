use Rattle.std.proofs.Common.{refl}
use Rattle.mgr_port.specs.Disk.{steps_to}
use Rattle.mgr_port.proofs.FolderLaws.{on_err, quiet_lock}
use Rattle.mgr_port.proofs.PlaceLaws.{puts_chain, puts_paths, puts_quiet, puts_whole, rights_look, rights_none, waits_none, waits_quiet, waits_stopped}
use Rattle.mgr_port.proofs.text.name_next.Goals as goal

pub returns-in_err-check_lock-clause-only : goal.returns-in_err-check_lock-clause-only
returns-in_err-check_lock-clause-only g c = puts_quiet _ _ _ _ _ (quiet_lock _ _ _ _ c.in_ok-lock.ensures.step)

pub returns-clause-only : goal.returns-clause-only
returns-clause-only g c =
    puts_chain _ _ _ _ _ _ (puts_quiet _ _ _ _ _ (quiet_lock _ _ _ _ c.in_ok-lock.ensures.step))
    (puts_paths _ _ _ _ _ _ _ c.as_str.ensures.value c.as_str-2.ensures.value (puts_whole _ _ _ c.put_whole.result (λ n. steps_to n _) _ _ _ c.put_whole.ensures.named c.put_whole.ensures.unnamed))

pub returns-in_err-lock-clause-unnamed : goal.returns-in_err-lock-clause-unnamed
returns-in_err-lock-clause-unnamed g c = on_err _ (waits_none _ _ _ _ _ c.in_err-lock.ensures.step)

pub returns-in_err-check_lock-clause-unnamed : goal.returns-in_err-check_lock-clause-unnamed
returns-in_err-check_lock-clause-unnamed g c = on_err _ (waits_quiet _ _ _ _ _ (quiet_lock _ _ _ _ c.in_ok-lock.ensures.step))

pub returns-clause-unnamed : goal.returns-clause-unnamed
returns-clause-unnamed g c =
    waits_stopped _ _ _ c.put_whole.result _ _ _ _ _ _ (tt, (tt, (tt, (tt, tt)))) c.as_str.ensures.value c.as_str-2.ensures.value (rights_look _ _ _ _ _ (rights_none _ _ _ refl) c.in_ok-lock.ensures.step tt) c.put_whole.ensures.unnamed
