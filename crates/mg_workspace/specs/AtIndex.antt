-- The buffer at an index: it takes operations from elsewhere, or runs a command, be it current or not.
use Rattle.std.specs.Prelude.{◌≡◌, ◌⊎◌, ℕ, List, Ok, Err, MatchResult}
use Rattle.rga_ops.specs.declared.op.Op.{Op}
use Rattle.mg_plain.specs.declared.command.Command.{Command}
use Rattle.mg_buffer.specs.Faults.{FaultVerdict, run_answer}
use Rattle.mg_buffer.specs.Following.{with_operations}
use Rattle.mg_buffer.specs.OpenState.{OpenState}
use Rattle.mg_buffer.specs.Ran.{Ran}
use Rattle.mg_buffer.specs.Sight.{Notes, command_call}
use Rattle.mg_buffer.specs.State.{State}
use Rattle.mg_workspace.specs.Actions.{ActionOutcome, action_fault_of}
use Rattle.mg_workspace.specs.Buffers.{buffer_at, with_at}
use Rattle.mg_workspace.specs.Workspaces.{Workspace}
use Rattle.mg_workspace.specs.Memory.{ActionMemory as Memory}

-- its state
abbrev pub state_at : ℕ → Workspace → State
state_at i w = (buffer_at i w.buffers).buffer

-- it became another; what is to be written of it beside its unsaved operations stays
abbrev pub with_state_at : ℕ → State → Workspace → Workspace
with_state_at i b w = record w { buffers = with_at i w.buffers (record (buffer_at i w.buffers) { buffer = b }) }

-- it has taken operations
abbrev pub with_operations_at : ℕ → List Op → Workspace → Workspace
with_operations_at i ops w = with_state_at i (with_operations ops (state_at i w)) w

-- it became another, as did what commands leave for the next one
abbrev pub with_state_and_notes_at : ℕ → State → Notes → Workspace → Workspace
with_state_and_notes_at i b notes w = record (with_state_at i b w) { notes = notes }

-- it became another in this way, or was refused as the verdict says; want of memory changes nothing
abbrev pub ActsAt : ℕ → FaultVerdict → (State → Notes → Type 0) → Workspace → ActionOutcome → Type 0
ActsAt i verdict Becomes w o =
    (o ≡ (w, Err Memory)) ⊎ MatchResult verdict
    (λ _. (b : State) × (notes : Notes) × Becomes b notes × (o ≡ (with_state_and_notes_at i b notes w, Ok tt)))
    (λ e. o ≡ (w, Err (action_fault_of e)))

-- it ran a command
abbrev pub RunsAt : ℕ → Command → ℕ → Workspace → ActionOutcome → Type 0
RunsAt i command n w o =
    let call = command_call command n w.fill in
    let b = state_at i w in
    ActsAt i (run_answer call b w.notes) (Ran call b w.notes) w o
