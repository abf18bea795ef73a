use Rattle.std.proofs.Common.{◌∙◌, ap, inl, refl, string_bytes, sym}
use Rattle.std.specs.Option.{option_map}
use Rattle.mgr_port.proofs.NotesLaws.{added_to, left_once_seen, made_after_look, none_stands}
use Rattle.mgr_port.proofs.FolderLaws.{quiet_one}
use Rattle.mgr_port.proofs.PlaceLaws.{puts_added, puts_chain, puts_look, puts_none}
use Rattle.mgr_port.proofs.note.Note.append.Goals as goal

pub returns-in-Some-clause-added : goal.returns-in-Some-clause-added
returns-in-Some-clause-added g c = added_to _ _ c.in-Some.log (λ log. log.file) g.F.Folder.file_of (λ log. log.left) _ _ _ _ _ _ _ c.in-Some.is c.as_str-path.ensures.value c.append.ensures.file c.append.ensures.added

pub returns-clause-made : goal.returns-clause-made
returns-clause-made g c = λ none.
    made_after_look _ _ (λ log. g.F.Folder.file_of log.file) (λ log. log.left) _ _ _ _ _ _ _ _ _ _ _ _ (ap (option_map (λ log. g.F.Folder.file_of log.file)) none) c.as_str-path.ensures.value (none_stands c.in_ok-follow.field-0.found (sym c.is_some.ensures ∙ c.if-is_some.false)) c.in_ok-follow.ensures.step c.make_log.ensures.made

pub returns-in-Some-clause-only : goal.returns-in-Some-clause-only
returns-in-Some-clause-only g c = (_, puts_added _ _ _ c.append.result _ _ _ _ _ _ c.append.ensures.added c.append.ensures.begun)

pub returns-then-is_some-clause-only : goal.returns-then-is_some-clause-only
returns-then-is_some-clause-only g c = (0, puts_look _ _ _ _ _ _ _ (puts_none _ _ _ _ _ refl) c.in_ok-follow.ensures.step tt)

pub returns-clause-only : goal.returns-clause-only
returns-clause-only g c = (_, puts_chain _ _ _ _ _ _ (puts_look _ _ _ _ _ _ _ (puts_none _ _ _ _ _ refl) c.in_ok-follow.ensures.step tt) c.make_log.ensures.only.1)

pub returns-clause-failed : goal.returns-clause-failed
returns-clause-failed g c = λ none.
    left_once_seen _ _ _ _ _ _ (string_bytes c.args.self.now.paths.text) _ _ c.args.lines.now _ _ _ (ap (option_map (λ log. g.F.Folder.file_of log.file)) none) c.as_str-path.ensures.value (none_stands c.in_ok-follow.field-0.found (sym c.is_some.ensures ∙ c.if-is_some.false)) c.in_ok-follow.ensures.step c.make_log.ensures.failed

pub returns-then-is_some-clause-failed : goal.returns-then-is_some-clause-failed
returns-then-is_some-clause-failed g c = λ none. inl (quiet_one _ _ _ c.in_ok-follow.ensures.step tt)
