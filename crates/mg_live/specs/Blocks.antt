-- What the end of a block leads to.
use Rattle.std.specs.Prelude.{◌≡◌, ℕ, Bool, true, false, not, ◌&&◌, ◌||◌, List, [], length, Option, Some, None, option_map, if◌then◌else◌, nat_eq}
use Rattle.std.specs.List.{list_any}
use Rattle.rga_ops.specs.declared.op.Op.{Op}
use Rattle.rga_exchange.specs.RunLines.{runs_text}
use Rattle.mg_editor.specs.Editors.{Editor}
use Rattle.mg_editor.specs.LiveSaving as saving
use Rattle.mg_editor.specs.declared.live_saving.Writing.{Writing}
use Rattle.mg_editor.specs.declared.live_saving.Writing.TheVariants.{Log, LogAndText}
use Rattle.mg_live.specs.Changes.{Changes}
use Rattle.mg_live.specs.Made.{live_index, unsaved_at}
use Rattle.mg_session.specs.Moments.{StepIf}
use Rattle.mg_live.specs.States.{Live, Moment}
use Rattle.mg_live.specs.Statuses.{can_show, Shows}

-- ---- what is due

-- the index of the live buffer, where it took something of others since its load
abbrev pub touched : Live → Editor → Option ℕ
touched live e = if live.telling.took then live_index live.name e else None

-- something was made in this block, and a log is due
abbrev pub logs_due : Live → Editor → Bool
logs_due live e = live.telling.made && list_any saving.is_log_due e.work.buffers.all

-- nobody types, and there is something to save
abbrev pub saves_due : Live → Editor → Bool
saves_due live e = live.telling.resting && saving.owes_save (touched live e) e.work.buffers.all

-- nothing of the live buffer is missing in its log
abbrev pub can_tell : Live → Editor → Bool
can_tell live e = elim (live_index live.name e) [
  | Some i ↦ nat_eq (length (unsaved_at i e)) 0
  | None ↦ true
]

-- what was made in the live buffer and not told, if the log has it
abbrev pub told_operations : Live → Editor → List Op
told_operations live e = if can_tell live e then live.telling.untold else []

abbrev pub tells_due : Live → Editor → Bool
tells_due live e = not (nat_eq (length (told_operations live e)) 0)

-- a second status follows
abbrev pub has_more : Live → Editor → Bool
has_more live e = saves_due live e || (logs_due live e || tells_due live e)

-- ---- the steps

-- what was told of reports and changes is told once
abbrev pub reported : Live → Live
reported live = record live {
  tally = record live.tally { refused = [] };
  changes = option_map (λ (c : Changes). record c { list = [] }) live.changes;
}

-- what is written: all that was made or taken, if that is due, else the logs of what was made, if these are
abbrev pub writing_due : Live → Editor → Option Writing
writing_due live e =
    if saves_due live e then Some (LogAndText (touched live e))
    else (if logs_due live e then Some Log else None)

-- Each buffer had its turn, if there is something to write.
abbrev pub Writes : Option Writing → Moment → Moment → Type 0
Writes None before after = after ≡ before
Writes (Some writing) before after =
    let old = before.editor.work in
    let new = after.editor.work in
    saving.Sweeps writing 0 old.buffers.all new.buffers.all
    (saving.course before.calls before.faults old.failures before.live.saved) (saving.course after.calls after.faults new.failures after.live.saved)
    × (after ≡ record before {
      editor = record before.editor { work = saving.with_swept new.buffers.all new.failures old };
      calls = after.calls;
      faults = after.faults;
      live = record before.live { saved = after.live.saved };
    })

-- the operations that were told are told no more
abbrev pub with_told : Bool → Live → Live
with_told is_told live = record live { telling = record live.telling { untold = if is_told then [] else live.telling.untold } }

-- A second status was written, and after it the operations that the log has.
pub record Tells (fresh : Bool) (before after : Moment) : Type 0 where
  pub shown : Moment
  pub shows : Shows fresh false (runs_text (told_operations before.live before.editor)) before shown
  pub left : after ≡ record shown { live = with_told (can_show shown.course && can_tell before.live before.editor) shown.live }

-- nothing is due
abbrev pub ended : Live → Live
ended live = record live { telling = record live.telling { made = false; resting = false } }

-- A status was written, with the frame after it; then logs were written, whatever became of the status; and then a second one, if something was
-- due.
pub record EndsBlock (before after : Moment) : Type 0 where
  pub shown : Moment
  pub written : Moment
  pub told : Moment
  pub shows : StepIf (can_show before.course) (Shows true (has_more before.live before.editor) []) before shown
  pub writes : Writes (writing_due before.live before.editor) (record shown { live = reported shown.live }) written
  pub tells : StepIf (has_more before.live before.editor && can_show written.course) (Tells (saves_due before.live before.editor)) written told
  pub left : after ≡ record told { live = ended told.live }
