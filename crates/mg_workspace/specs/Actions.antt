-- What actions do.
use Rattle.std.specs.Prelude.{◌≡◌, ◌⊎◌, ℕ, Bool, true, false, List, length, Result, Ok, Err, MatchResult, nat_lt, nat_le, if◌then◌else◌}
use Rattle.std.specs.Option.{option_map_or}
use Rattle.rga_ops.specs.Order.{text}
use Rattle.rga_ops.specs.declared.refusal.Refusal.TheVariants.{Full, Clock}
use Rattle.mg_plain.specs.declared.view.Kind.TheVariants.{Plain}
use Rattle.mg_buffer.specs.declared.fault.BufferFault.{BufferFault}
use Rattle.mg_buffer.specs.declared.fault.BufferFault.TheVariants.{Notice as Noticed, Store}
use Rattle.mg_buffer.specs.Faults.{FaultVerdict, run_answer, undo_answer}
use Rattle.mg_buffer.specs.Ran as buffer_run
use Rattle.mg_buffer.specs.Undid as buffer_undo
use Rattle.mg_buffer.specs.Sight.{Notes, command_call, place_of}
use Rattle.mg_buffer.specs.State.{State}
use Rattle.mg_buffer.specs.OpenState.{OpenState, is_changed}
use Rattle.mg_minibuffer.specs.declared.ending.Arrangement.{Arrangement}
use Rattle.mg_minibuffer.specs.declared.ending.Arrangement.TheVariants.{Split, Remove, Only, Other, Recenter}
use Rattle.mg_minibuffer.specs.declared.ending.Action.{Action}
use Rattle.mg_minibuffer.specs.declared.ending.Action.TheVariants.{Nothing, EndRun, Run, Undo, Arrange, Switch, Kill}
use Rattle.mg_screen.specs.Size.{least_split_height}
use Rattle.mg_screen.specs.Layout.{Layout, current_height, split_layout, removed_layout, resized_layout, only_layout, other_layout}
use Rattle.mg_screen.specs.Lines.{line_index, centred}
use Rattle.mg_workspace.specs.Buffers as buffers
use Rattle.mg_workspace.specs.Failures.{without_owner}
use Rattle.mg_workspace.specs.Names.{buffer_named, asked, next_round}
use Rattle.mg_workspace.specs.declared.fault.ActionFault.{ActionFault}
use Rattle.mg_workspace.specs.declared.fault.ActionFault.TheVariants.{Refused}
use Rattle.mg_workspace.specs.Memory.{ActionMemory as Memory}
use Rattle.mg_workspace.specs.declared.fault.Cause.{Cause}
use Rattle.mg_workspace.specs.declared.fault.Cause.TheVariants as cause
use Rattle.mg_workspace.specs.declared.viewport.Viewport.{Viewport}
use Rattle.mg_workspace.specs.Viewports.{current_viewport, turned_to_buffer, scrolled, layout_without}
use Rattle.mg_workspace.specs.Workspaces.{Workspace, workspace_buffer}

-- why an action is not done, by what the buffer says
abbrev pub action_fault_of : BufferFault → ActionFault
action_fault_of (Noticed notice) = Refused (cause.Notice notice)
action_fault_of (Store Full) = Refused cause.BufferFull
action_fault_of (Store Clock) = Refused cause.IdentifiersUsedUp
action_fault_of (Store _) = Memory

abbrev pub ActionVerdict : Type 0
ActionVerdict = Result (Unit {0}) ActionFault

abbrev pub of_buffer : FaultVerdict → ActionVerdict
of_buffer (Ok u) = Ok tt
of_buffer (Err e) = Err (action_fault_of e)

-- the workspace behind an action, and the answer to it
abbrev pub ActionOutcome : Type 0
ActionOutcome = Workspace × ActionVerdict

abbrev pub refusal_outcome : Cause → Workspace → ActionOutcome
refusal_outcome why w = (w, Err (Refused why))

-- ---- of the current buffer

-- where a run of commands ended
abbrev pub idled_work : Workspace → Workspace
idled_work w = record w { buffers = buffers.idled w.buffers; notes = record w.notes { kind = Plain } }

-- its state
abbrev pub current_state : Workspace → State
current_state w = (workspace_buffer w).buffer

-- it became another, as did what commands leave for the next one
abbrev pub with_state_and_notes : State → Notes → Workspace → Workspace
with_state_and_notes b notes w = record w { buffers = buffers.with_state w.buffers b; notes = notes }

-- it became another in this way, or was refused as the verdict says; want of memory changes nothing
abbrev pub ActsInCurrent : FaultVerdict → (State → Notes → Type 0) → Workspace → ActionOutcome → Type 0
ActsInCurrent verdict Becomes w o =
    (o ≡ (w, Err Memory)) ⊎ MatchResult verdict
    (λ _. (b : State) × (notes : Notes) × Becomes b notes × (o ≡ (with_state_and_notes b notes w, Ok tt)))
    (λ e. o ≡ (w, Err (action_fault_of e)))

-- ---- of the windows

-- as they become where that buffer is current, and the answer, want of memory aside
abbrev pub window_outcome : Arrangement → OpenState → Layout Viewport → Layout Viewport × ActionVerdict
window_outcome Split b l = if nat_lt (current_height l) least_split_height then (l, Err (Refused cause.WindowTooSmall)) else (split_layout l, Ok tt)
window_outcome Remove b l = if nat_le (length l.windows) 1 then (l, Err (Refused cause.OnlyOneWindow)) else (removed_layout l, Ok tt)
window_outcome Only b l = (only_layout l, Ok tt)
window_outcome Other b l = (other_layout l, Ok tt)
window_outcome Recenter b l =
    let point = place_of b.buffer.content b.buffer.point in
    (scrolled (centred (line_index (text b.buffer.content) point) (current_height l)) l, Ok tt)

-- the windows are these, and the buffer of the current one is current
abbrev pub with_windows : Layout Viewport → Workspace → Workspace
with_windows l w = record w { buffers = record w.buffers { current = (current_viewport l).buffer }; windows = l }

-- a run of commands ended, and the windows changed or not, want of memory aside
abbrev pub arrange_outcome : Arrangement → Workspace → ActionOutcome
arrange_outcome a w =
    let windows = window_outcome a (workspace_buffer w) w.windows in
    (with_windows windows.0 (idled_work w), windows.1)

-- on a screen of so many rows and columns: the windows change, and no buffer, nor which one is current
abbrev pub resized_work : ℕ → ℕ → Workspace → Workspace
resized_work rows columns w = record w { windows = resized_layout rows w.windows; columns = columns }

-- ---- of the buffers by their names

-- the buffer at an index is current, and the current window shows it
abbrev pub gone_to : ℕ → Workspace → Workspace
gone_to i w = record w { buffers = record w.buffers { current = i }; windows = turned_to_buffer i w.windows }

-- to the buffer of that name, and whether it is open
abbrev pub visit_outcome : List ℕ → Workspace → Workspace × Bool
visit_outcome name w = option_map_or (λ i. (gone_to i w, true)) (buffer_named name w.buffers.all) (w, false)

-- to the buffer of that name, or without a name to the next one in order of opening, round
abbrev pub switch_outcome : List ℕ → Workspace → ActionOutcome
switch_outcome name w =
    let next = next_round (length w.buffers.all) w.buffers.current in
    option_map_or (λ i. (gone_to i w, Ok tt)) (asked name next w.buffers.all) (refusal_outcome cause.NoSuchBuffer w)

-- without the buffer at an index: the windows that showed it show the first one of those left, and what failed in it stands for
-- good
abbrev pub removed : ℕ → Workspace → Workspace
removed i w = record w { buffers = buffers.without_buffer i w.buffers; windows = layout_without i w.windows; failures = without_owner i w.failures }

-- without it, unless it is changed or the only one
abbrev pub removal_outcome : ℕ → Workspace → ActionOutcome
removal_outcome i w =
    if is_changed (buffers.buffer_at i w.buffers) then refusal_outcome cause.BufferIsChanged w
    else (if nat_le (length w.buffers.all) 1 then refusal_outcome cause.OnlyOneBuffer w else (removed i w, Ok tt))

-- without the buffer of that name, or without a name the current one
abbrev pub kill_outcome : List ℕ → Workspace → ActionOutcome
kill_outcome name w =
    option_map_or (λ i. removal_outcome i w) (asked name w.buffers.current w.buffers.all) (refusal_outcome cause.NoSuchBuffer w)

-- ---- of any action
abbrev pub Done : Action → Workspace → ActionOutcome → Type 0
Done Nothing w o = o ≡ (w, Ok tt)
Done EndRun w o = o ≡ (idled_work w, Ok tt)
Done (Run command n) w o =
    let call = command_call command n w.fill in
    let b = current_state w in
    ActsInCurrent (run_answer call b w.notes) (buffer_run.Ran call b w.notes) w o
Done Undo w o = ActsInCurrent (undo_answer (current_state w)) (buffer_undo.Undid (current_state w) w.notes) w o
Done (Arrange a) w o = (o ≡ (w, Err Memory)) ⊎ (o ≡ arrange_outcome a w)
Done (Switch name) w o = o ≡ switch_outcome name w
Done (Kill name) w o = o ≡ kill_outcome name w
