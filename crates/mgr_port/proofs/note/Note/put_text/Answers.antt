use Rattle.mgr_port.proofs.NotesLaws.{kept_beside_log, tried_beside_log}
use Rattle.mgr_port.proofs.note.Note.put_text.Goals as goal

pub returns-clause-put : goal.returns-clause-put
returns-clause-put g c = rw (c.file_of.ensures g.F.Folder.file_of) at c.put.ensures.put

pub returns-clause-only : goal.returns-clause-only
returns-clause-only g c = tried_beside_log _ _ _ _ _ _ _ _ (c.file_of.ensures g.F.Folder.file_of) c.put.ensures.only

pub returns-clause-own : goal.returns-clause-own
returns-clause-own g c = kept_beside_log c.put.result _ _ _ _ _ _ _ _ (c.file_of.ensures g.F.Folder.file_of) c.put.ensures.own
