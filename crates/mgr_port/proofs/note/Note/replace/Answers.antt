use Rattle.std.proofs.Common.{refl}
use Rattle.mgr_port.proofs.NotesLaws.{left_of_what_stands, left_once_seen, made_after_look, made_of_what_stands}
use Rattle.mgr_port.proofs.PlaceLaws.{puts_chain, puts_look, puts_none}
use Rattle.mgr_port.proofs.note.Note.replace.Goals as goal

pub returns-clause-made : goal.returns-clause-made
returns-clause-made g c =
    made_of_what_stands _ _ _ c.in_ok-standing.field-0.found
    (made_after_look _ _ (λ log. g.F.Folder.file_of log.file) (λ log. log.left) _ _ _ _ _ _ _ _ _ _ _ _ refl c.as_str.ensures.value refl c.in_ok-standing.ensures.step c.make_log.ensures.made)

pub returns-clause-only : goal.returns-clause-only
returns-clause-only g c = (_, puts_chain _ _ _ _ _ _ (puts_look _ _ _ _ _ _ _ (puts_none _ _ _ _ _ refl) c.in_ok-standing.ensures.step tt) c.make_log.ensures.only.1)

pub returns-clause-failed : goal.returns-clause-failed
returns-clause-failed g c =
    left_of_what_stands _ _ _ c.in_ok-standing.field-0.found
    (left_once_seen _ _ _ _ _ _ _ _ _ c.args.lines.now _ _ _ refl c.as_str.ensures.value refl c.in_ok-standing.ensures.step c.make_log.ensures.failed)
