-- What commands and undos make, and what of it is to be told.
use Rattle.std.specs.Prelude.{◌≡◌, ◌<◌, ℕ, Bool, false, not, ◌&&◌, ◌||◌, List, [], ◌++◌, length, drop, Option, Some, None, nat_eq, if◌then◌else◌}
use Rattle.rga_ops.specs.declared.op.Op.{Op}
use Rattle.mg_editor.specs.Editors.{Editor}
use Rattle.mg_session.specs.declared.course.Course.{Course}
use Rattle.mg_session.specs.Memory.{CourseMemory as NoMemory}
use Rattle.mg_workspace.specs.AtIndex.{state_at}
use Rattle.mg_workspace.specs.Names.{buffer_named}
use Rattle.mg_live.specs.States.{Live}
use Rattle.mg_live.specs.declared.made.Mark.{Mark}

-- the index of the live buffer
abbrev pub live_index : List ℕ → Editor → Option ℕ
live_index name e = buffer_named name e.work.buffers.all

-- what is unsaved in the buffer at an index
abbrev pub unsaved_at : ℕ → Editor → List Op
unsaved_at i e = (state_at i e.work).unsaved

-- What became unsaved in the buffer at an index. Where there is another number of buffers, one was removed, and nothing was
-- made.
abbrev pub made_at : ℕ → Editor → Editor → List Op
made_at i old new =
    if nat_eq (length new.work.buffers.all) (length old.work.buffers.all) then drop (length (unsaved_at i old)) (unsaved_at i new) else []

-- the live buffer is the one at that index
abbrev pub is_live : List ℕ → ℕ → Editor → Bool
is_live name i e = elim (live_index name e) [
  | Some k ↦ nat_eq k i
  | None ↦ false
]

-- operations were made, of which those of the live buffer are to be told; there is memory to note them, or not
abbrev pub with_made : Bool → Bool → List Op → Live → Live
with_made told has_memory ops live = record live {
  telling = record live.telling {
    untold = if told && has_memory then live.telling.untold ++ ops else live.telling.untold;
    made = live.telling.made || not (nat_eq (length ops) 0);
  };
}

-- what is unsaved in the live buffer, where it was opened: the load of a text without a log made it
abbrev pub opened_operations : List ℕ → Editor → Editor → List Op
opened_operations name old new = elim (live_index name old) [
  | Some k ↦ []
  | None ↦ elim (live_index name new) [ Some i ↦ unsaved_at i new | None ↦ [] ]
]

-- the session goes on as that, if there was memory
abbrev pub if_memory : Bool → Course → Course
if_memory has_memory course = if has_memory then course else NoMemory

-- of the code: how the buffer at an index stood
pub record IsMark (name : List ℕ) (i : ℕ) (e : Editor) (m : Mark) : Type 0 where
  pub index : m.index ≡ i
  pub within : i < length e.work.buffers.all
  pub buffers : m.buffers ≡ length e.work.buffers.all
  pub unsaved : m.unsaved ≡ length (unsaved_at i e)
  pub live : m.is_live ≡ is_live name i e
