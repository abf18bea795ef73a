use Rattle.std.proofs.Common.{ap}
use Rattle.std.specs.Prelude.{string_bytes}
use Rattle.mgr_port.proofs.NotesLaws.{loaded_there, owned_there}
use Rattle.mgr_port.proofs.PlaceLaws.{at_chain, at_leaving, at_path}
use Rattle.mgr_port.proofs.note.Note.load.Goals as goal

pub returns-in-Ok-clause-read : goal.returns-in-Ok-clause-read
returns-in-Ok-clause-read g c = loaded_there _ _ (λ log. g.F.Folder.file_of log.file) (λ log. log.left) _ _ _ c.close.ensures.paths c.in-Ok.ensures.read

pub returns-in-Err-clause-only : goal.returns-in-Err-clause-only
returns-in-Err-clause-only g c =
    at_path _ _ _ _ (ap (λ paths. string_bytes paths.next_log) c.close.ensures.paths)
    (at_chain _ _ _ _ c.try_load.ensures.only (at_path _ _ _ _ (ap (λ paths. string_bytes paths.next_log) c.try_load.ensures.paths) (at_leaving _ _ _ _ _ c.leave.ensures)))

pub returns-in-Ok-clause-beside : goal.returns-in-Ok-clause-beside
returns-in-Ok-clause-beside g c = owned_there _ _ (λ log. log.left) _ _ _ _ _ _ _ c.close.ensures.paths c.close.ensures.own c.in-Ok.ensures.beside
