use Rattle.std.proofs.Common.{None, refl}
use Rattle.mgr_port.specs.Disk.{steps_to}
use Rattle.mgr_port.proofs.FolderLaws.{on_err}
use Rattle.mgr_port.proofs.NotesLaws.{named_log}
use Rattle.mgr_port.proofs.PlaceLaws.{puts_chain, puts_paths, puts_rights, puts_whole, waits_rights, waits_stopped}
use Rattle.mgr_port.proofs.note.name_next.Goals as goal

pub returns-clause-named : goal.returns-clause-named
returns-clause-named g c =
    named_log _ _ _ (record { path = c.as_str-2.result; name = c.as_str-3.result; later = None; old = c.old_for.result }) _ _ _ _ _ _ _ _ _
    c.as_str.ensures.value c.in_ok-take_rights.ensures.taken c.as_str-2.ensures.value c.as_str-3.ensures.value refl c.old_for.ensures c.put_log.ensures.named

pub returns-clause-only : goal.returns-clause-only
returns-clause-only g c =
    puts_chain _ _ _ _ _ _ (puts_rights _ _ _ _ _ c.in_ok-take_rights.ensures.only)
    (puts_paths _ _ _ _ _ _ _ c.as_str-2.ensures.value c.as_str-3.ensures.value (puts_whole _ _ _ c.put_log.result (λ n. steps_to n _) _ _ _ c.put_log.ensures.named c.put_log.ensures.unnamed))

pub returns-in_err-take_rights-clause-only : goal.returns-in_err-take_rights-clause-only
returns-in_err-take_rights-clause-only g c = puts_rights _ _ _ _ _ c.in_err-take_rights.ensures.only

pub returns-in_err-take_rights-clause-unnamed : goal.returns-in_err-take_rights-clause-unnamed
returns-in_err-take_rights-clause-unnamed g c = on_err _ (waits_rights _ _ _ _ _ c.in_err-take_rights.ensures.only)

pub returns-clause-unnamed : goal.returns-clause-unnamed
returns-clause-unnamed g c =
    waits_stopped _ _ _ c.put_log.result _ _ _ _ _ _ (tt, (tt, (tt, (tt, tt)))) c.as_str-2.ensures.value c.as_str-3.ensures.value c.in_ok-take_rights.ensures.only c.put_log.ensures.unnamed
