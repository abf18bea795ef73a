use Rattle.mgr_port.specs.Disk.{steps_to}
use Rattle.mgr_port.proofs.FolderLaws.{only_chain, only_none, quiet_one}
use Rattle.mgr_port.proofs.NotesLaws.{left_early, left_log, left_waiting, made_log, put_log}
use Rattle.mgr_port.proofs.PlaceLaws.{at_chain, at_path, puts_at, puts_chain, puts_look, puts_none, puts_quiet}
use Rattle.mgr_port.proofs.note.Note.make_log.Goals as goal

pub returns-in_ok-read_to-in-Ok-clause-made : goal.returns-in_ok-read_to-in-Ok-clause-made
returns-in_ok-read_to-in-Ok-clause-made g c =
    rw c.in_ok-read_to-in-Ok.ensures.file
    (made_log _ c.in-Ok.named _ _ _ _ _ _ _ _ _ _ _ _ _ c.settled.ensures (put_log _ _ _ _ _ _ _ _ (steps_to c.in-Ok.named c.args.lines.now) _ _ _ _ c.as_str-path.ensures.value (c.file_of-log.ensures g.F.Folder.file_of) c.in_ok-make_room.ensures.made c.in_ok-next.ensures.taken c.in_ok-next.ensures.only c.in-Ok.ensures.named) c.in_ok-length-in-Ok.ensures.step c.in_ok-read_to-in-Ok.ensures.left)

pub returns-in_err-make_room-clause-failed : goal.returns-in_err-make_room-clause-failed
returns-in_err-make_room-clause-failed g c = left_early _ _ _ _ _ _ _ _ _ c.in_err-make_room.ensures.only

pub returns-in_err-next-clause-failed : goal.returns-in_err-next-clause-failed
returns-in_err-next-clause-failed g c =
    left_early _ _ _ _ _ _ _ _ _ (at_chain _ _ _ _ c.in_ok-make_room.ensures.only (at_path _ _ _ _ c.as_str-path.ensures.value c.in_err-next.ensures.only))

pub returns-in-Err-clause-failed : goal.returns-in-Err-clause-failed
returns-in-Err-clause-failed g c =
    left_waiting _ _ _ _ _ _ _ _ _ _ _ _ c.as_str-path.ensures.value (at_chain _ _ _ _ c.in_ok-make_room.ensures.only (at_path _ _ _ _ c.as_str-path.ensures.value c.in_ok-next.ensures.only))
    c.in_ok-next.ensures.taken c.in-Err.ensures.unnamed

pub returns-in_err-length-in-Ok-clause-failed : goal.returns-in_err-length-in-Ok-clause-failed
returns-in_err-length-in-Ok-clause-failed g c = left_log _ c.in-Ok.named _ _ _ _ _ _ _ _ _ _ (put_log _ _ _ _ _ _ _ _ (steps_to c.in-Ok.named c.args.lines.now) _ _ _ _ c.as_str-path.ensures.value (c.file_of-log.ensures g.F.Folder.file_of) c.in_ok-make_room.ensures.made c.in_ok-next.ensures.taken c.in_ok-next.ensures.only c.in-Ok.ensures.named) (only_none _ _ c.in_err-length-in-Ok.ensures.step)

pub returns-in_err-read_to-in-Ok-clause-failed : goal.returns-in_err-read_to-in-Ok-clause-failed
returns-in_err-read_to-in-Ok-clause-failed g c =
    left_log _ c.in-Ok.named _ _ _ _ _ _ _ _ _ _ (put_log _ _ _ _ _ _ _ _ (steps_to c.in-Ok.named c.args.lines.now) _ _ _ _ c.as_str-path.ensures.value (c.file_of-log.ensures g.F.Folder.file_of) c.in_ok-make_room.ensures.made c.in_ok-next.ensures.taken c.in_ok-next.ensures.only c.in-Ok.ensures.named) (only_chain _ _ _ (quiet_one _ _ _ c.in_ok-length-in-Ok.ensures.step tt) c.in_err-read_to-in-Ok.ensures.quiet)

pub returns-in_ok-read_to-in-Ok-clause-failed : goal.returns-in_ok-read_to-in-Ok-clause-failed
returns-in_ok-read_to-in-Ok-clause-failed g c =
    left_log _ c.in-Ok.named _ _ _ _ _ _ _ _ _ _ (put_log _ _ _ _ _ _ _ _ (steps_to c.in-Ok.named c.args.lines.now) _ _ _ _ c.as_str-path.ensures.value (c.file_of-log.ensures g.F.Folder.file_of) c.in_ok-make_room.ensures.made c.in_ok-next.ensures.taken c.in_ok-next.ensures.only c.in-Ok.ensures.named) (only_chain _ _ _ (quiet_one _ _ _ c.in_ok-length-in-Ok.ensures.step tt) c.in_ok-read_to-in-Ok.ensures.quiet)

pub returns-in_err-next-clause-only : goal.returns-in_err-next-clause-only
returns-in_err-next-clause-only g c = (0, puts_chain _ _ _ _ _ _ (puts_at _ _ _ _ _ c.in_ok-make_room.ensures.only) (puts_at _ _ _ _ _ (at_path _ _ _ _ c.as_str-path.ensures.value c.in_err-next.ensures.only)))

pub returns-in-Err-clause-only : goal.returns-in-Err-clause-only
returns-in-Err-clause-only g c = (
  _,
  puts_chain _ _ _ _ _ _ (puts_chain _ _ _ _ _ _ (puts_at _ _ _ _ _ c.in_ok-make_room.ensures.only) (puts_at _ _ _ _ _ (at_path _ _ _ _ c.as_str-path.ensures.value c.in_ok-next.ensures.only)))
      c.name_next.ensures.only,
)

pub returns-in_err-length-in-Ok-clause-only : goal.returns-in_err-length-in-Ok-clause-only
returns-in_err-length-in-Ok-clause-only g c = (
  _,
  puts_chain _ _ _ _ _ _
      (puts_chain _ _ _ _ _ _ (puts_chain _ _ _ _ _ _ (puts_at _ _ _ _ _ c.in_ok-make_room.ensures.only) (puts_at _ _ _ _ _ (at_path _ _ _ _ c.as_str-path.ensures.value c.in_ok-next.ensures.only))) c.name_next.ensures.only)
      (puts_none _ _ _ _ _ c.in_err-length-in-Ok.ensures.step),
)

pub returns-in_err-read_to-in-Ok-clause-only : goal.returns-in_err-read_to-in-Ok-clause-only
returns-in_err-read_to-in-Ok-clause-only g c = (_, puts_chain _ _ _ _ _ _ (puts_look _ _ _ _ _ _ _ (puts_chain _ _ _ _ _ _ (puts_chain _ _ _ _ _ _ (puts_at _ _ _ _ _ c.in_ok-make_room.ensures.only) (puts_at _ _ _ _ _ (at_path _ _ _ _ c.as_str-path.ensures.value c.in_ok-next.ensures.only))) c.name_next.ensures.only) c.in_ok-length-in-Ok.ensures.step tt) (puts_quiet _ _ _ _ _ c.in_err-read_to-in-Ok.ensures.quiet))

pub returns-in_ok-read_to-in-Ok-clause-only : goal.returns-in_ok-read_to-in-Ok-clause-only
returns-in_ok-read_to-in-Ok-clause-only g c = (_, puts_chain _ _ _ _ _ _ (puts_look _ _ _ _ _ _ _ (puts_chain _ _ _ _ _ _ (puts_chain _ _ _ _ _ _ (puts_at _ _ _ _ _ c.in_ok-make_room.ensures.only) (puts_at _ _ _ _ _ (at_path _ _ _ _ c.as_str-path.ensures.value c.in_ok-next.ensures.only))) c.name_next.ensures.only) c.in_ok-length-in-Ok.ensures.step tt) (puts_quiet _ _ _ _ _ c.in_ok-read_to-in-Ok.ensures.quiet))

pub returns-in_err-make_room-clause-only : goal.returns-in_err-make_room-clause-only
returns-in_err-make_room-clause-only g c = (0, puts_at _ _ _ _ _ c.in_err-make_room.ensures.only)
