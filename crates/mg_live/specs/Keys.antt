-- What a key of a live session leads to.
use Rattle.std.specs.Prelude.{◌≡◌, ℕ, Bool, true, false, List, ◌&&◌, ◌++◌, Option, Some, Ok, Err, IfSome, is_some, if◌then◌else◌}
use Rattle.std.specs.List.{Contains}
use Rattle.rga_ops.specs.declared.op.Op.{Op}
use Rattle.mg_buffer.specs.OpenState.{OpenState}
use Rattle.mg_files.specs.Calls.{Call}
use Rattle.mg_files.specs.Held.{Held, MayLead}
use Rattle.mg_files.specs.Meeting.{CountsFaults}
use Rattle.mg_minibuffer.specs.declared.ending.Request.{Request}
use Rattle.mg_minibuffer.specs.declared.ending.Request.TheVariants as request
use Rattle.mg_editor.specs.Carrying as carrying
use Rattle.mg_editor.specs.Editors.{Editor}
use Rattle.mg_editor.specs.Holding.{AreOpen, GoesOn, HaveOwnNames, IsOpen}
use Rattle.mg_editor.specs.Meeting.{role_of}
use Rattle.mg_editor.specs.Presses as presses
use Rattle.mg_editor.specs.Telling as telling
use Rattle.mg_editor.specs.declared.fault.CarryFault.TheVariants.{Port}
use Rattle.mg_session.specs.Keys.{request_of, said, course_behind}
use Rattle.mg_session.specs.Moments.{ToldCalls}
use Rattle.mg_workspace.specs.Buffers.{Buffers}
use Rattle.mg_live.specs.Made.{live_index, is_live, made_at, opened_operations, with_made, if_memory}
use Rattle.mg_live.specs.States.{Live, Moment, WriteAnswer}
use Rattle.mg_live.specs.Tallies.{with_key}

-- the live buffer was opened anew: what its load made is to be told, if there is memory to note it, and it took nothing of others yet
abbrev pub with_opened : Bool → Editor → Editor → Live → Live
with_opened has_memory old new live =
    if is_some (live_index live.name old) then live
    else (if is_some (live_index live.name new) then record live {
      telling = record live.telling {
        untold = if has_memory then live.telling.untold ++ opened_operations live.name old new else live.telling.untold;
        took = false;
      };
    } else live)

abbrev pub is_save : Request → Bool
is_save request.Save = true
is_save asked = false

-- how the last writing of a log ended, once a request was answered so: a save is such a writing, and ended well too if there was
-- nothing to save
abbrev pub saved_by : Bool → telling.CarryAnswer → Option WriteAnswer → Option WriteAnswer
saved_by true (Ok done) saved = Some (Ok tt)
saved_by true (Err (Port fault)) saved = Some (Err fault)
saved_by asked answer saved = saved

-- What the buffers are after a meeting: steps lead to each from one that was open, which took no more than came of the peer; and what
-- is held under other names stays.
pub record HaveMet (before : Buffers) (s : Held) (after : Buffers) (t : Held) : Type 0 where
  pub ops : List Op
  pub go_on : (d : OpenState) → Contains after.all d → GoesOn ops before s d t
  pub others : (name : List ℕ) → (IsOpen name before → ⊥) → t name ≡ s name

-- by what its calls lead to
abbrev pub Meets : ToldCalls → ToldCalls → Buffers → Buffers → Type 0
Meets calls more before after =
    (told made : List Call) (s t : Held) → AreOpen before → HaveOwnNames before → AreOpen after → calls ≡ Some told → more ≡ Some (told ++ made)
    → MayLead made s t → HaveMet before s after t

-- The byte was pressed, want of memory was said, and what was requested was carried. What the press made is to be told where
-- it was made in the live buffer; so is what a load of the live buffer made. Where there was no memory to note it the session ends.
pub record TakesKey (byte : ℕ) (before after : Moment) : Type 0 where
  pub answer : presses.PressAnswer
  pub pressed : Editor
  pub carry_answer : telling.CarryAnswer
  pub noted : Bool
  pub noted_opened : Bool
  pub presses : presses.Pressed byte before.editor pressed answer
  pub carried : carrying.Carried (request_of answer) before.calls after.calls (said answer pressed) after.editor carry_answer
  pub device : CountsFaults (telling.port_outcome carry_answer) before.faults after.faults
  pub met : IfSome (role_of (request_of answer)) (λ _. Meets before.calls after.calls (said answer pressed).work.buffers after.editor.work.buffers)
  pub screen : after.screen ≡ before.screen
  pub live :
      let current = before.editor.work.buffers.current in
      let counted = record before.live { tally = with_key before.live.tally } in
      let made = with_made (is_live counted.name current before.editor) noted (made_at current before.editor pressed) counted in
      let asked = record made { saved = saved_by (is_save (request_of answer)) carry_answer made.saved } in
      after.live ≡ with_opened noted_opened (said answer pressed) after.editor asked
  pub course : after.course ≡ if_memory (noted && noted_opened) (course_behind (request_of answer))
