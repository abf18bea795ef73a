use Rattle.std.proofs.Common.{◌≡◌, true, drop}
use Rattle.mg_minibuffer.specs.Dialogues.{takes_text}
use Rattle.mg_editor.proofs.TypingLaws.{LeadsOn}
use Rattle.mg_editor.proofs.editor.Editor.type_all.Given as goal

abbrev pub invariant-loop-ch : goal.invariant-loop-ch
invariant-loop-ch g l = record { ready : takes_text l.self.talk.prompt ≡ true; leads : LeadsOn (drop l.ch-index l.line) l.self l.line l.fn.self }
