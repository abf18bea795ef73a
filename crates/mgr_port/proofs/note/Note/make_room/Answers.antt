use Rattle.mgr_port.proofs.NotesLaws.{room_made}
use Rattle.mgr_port.proofs.PlaceLaws.{at_path}
use Rattle.mgr_port.proofs.note.Note.make_room.Goals as goal

pub returns-in-Some-clause-made : goal.returns-in-Some-clause-made
returns-in-Some-clause-made g c = room_made _ _ c.in-Some.log (λ log. g.F.Folder.file_of log.file) _ _ _ _ c.in-Some.is c.as_str.ensures.value c.make_room.ensures.made

pub returns-in-Some-clause-only : goal.returns-in-Some-clause-only
returns-in-Some-clause-only g c = at_path _ _ _ _ c.as_str.ensures.value c.make_room.ensures.only
