-- What a command leaves of a buffer and of the notes.
use Rattle.std.specs.Prelude.{◌≡◌, ℕ, List, ◌++◌, Option, Some, None, Ok}
use Rattle.std.specs.Option.{option_map}
use Rattle.rga_ops.specs.Content.{join, content_of}
use Rattle.rga_ops.specs.Order.{text}
use Rattle.rga_ops.specs.Splice.{Splice, text_after}
use Rattle.rga_ops.specs.declared.op.Op.{Op}
use Rattle.rga_doc.specs.LocalEdit.{splices_answer, splices_operations, element_behind}
use Rattle.mg_plain.specs.Effect.{Effect}
use Rattle.mg_buffer.specs.Groups.{past_of, with_group}
use Rattle.mg_buffer.specs.State.{State}
use Rattle.mg_buffer.specs.Sight.{CommandCall, Notes, notes_after, effect_of_call}

-- the operations that splices stand for at a buffer
abbrev pub operations_of_splices : State → List Splice → List Op
operations_of_splices b splices = splices_operations b.replica b.content splices

-- The splices were taken, with all that comes with it: point and mark stand behind exactly the elements that are left of
-- their places in the new text.
pub record Edited (splices : List Splice) (at : ℕ) (mark_at : Option ℕ) (b d : State) : Type 0 where
  pub allowed : splices_answer b.limit b.content splices ≡ Ok tt
  pub content : d.content ≡ join b.content (content_of (operations_of_splices b splices))
  pub text : text d.content ≡ text_after (text b.content) splices
  pub point : element_behind d.content at ≡ Some d.point
  pub mark : option_map (element_behind d.content) mark_at ≡ option_map Some d.mark
  pub groups : d.groups ≡ with_group b.groups (past_of b.content (operations_of_splices b splices)) (operations_of_splices b splices)
  pub undone : d.undone ≡ None
  pub unsaved : d.unsaved ≡ b.unsaved ++ operations_of_splices b splices
  pub name : d.name ≡ b.name
  pub limit : d.limit ≡ b.limit
  pub replica : d.replica ≡ b.replica

-- The command ran with this plan, which is its effect at what it saw.
pub record Ran (call : CommandCall) (b : State) (old : Notes) (d : State) (new : Notes) : Type 0 where
  pub plan : Effect
  pub due : effect_of_call call b old ≡ Ok plan
  pub edited : Edited plan.splices plan.point plan.mark b d
  pub notes : new ≡ notes_after old plan
