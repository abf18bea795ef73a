use Rattle.std.proofs.Common.{rules, refl, inl, inr}
use Rattle.mg_editor.specs.Presses.{ending_without_memory}
use Rattle.mg_editor.proofs.editor.Editor.go_on.Goals as goal

pub returns-in-Err : goal.returns-in-Err
returns-in-Err g c = (ending_without_memory, inr refl, inl (search rules, search rules, search rules))
