-- What a status of a live session says of the editor.
use Rattle.std.specs.Prelude.{◌≡◌, ℕ, List, length, map, Option, Some, None}
use Rattle.rga_ops.specs.Order.{text, waiting}
use Rattle.mg_buffer.specs.OpenState.{OpenState, is_changed}
use Rattle.mg_buffer.specs.Sight.{place_of}
use Rattle.mg_buffer.specs.State.{State}
use Rattle.mg_minibuffer.specs.Prompts.{label, typed_answer}
use Rattle.mg_minibuffer.specs.declared.prompt.Prompt.{Prompt}
use Rattle.mg_minibuffer.specs.declared.prompt.Prompt.TheVariants.{Searching, Replacing}
use Rattle.mg_screen.specs.Layout.{Window}
use Rattle.mg_screen.specs.Lines.{line_index, column_of}
use Rattle.mg_events.specs.declared.status.Asking.{Asking}
use Rattle.mg_events.specs.declared.status.Asking.TheVariants as asking
use Rattle.mg_events.specs.declared.status.BufferStatus.{BufferStatus}
use Rattle.mg_events.specs.declared.status.PointStatus.{PointStatus}
use Rattle.mg_events.specs.declared.status.PromptStatus.{PromptStatus}
use Rattle.mg_events.specs.declared.status.WindowStatus.{WindowStatus}
use Rattle.mg_workspace.specs.Buffers.{Buffers, buffer_at}
use Rattle.mg_workspace.specs.Workspaces.{Workspace}
use Rattle.mg_workspace.specs.declared.viewport.Viewport.{Viewport}

-- ---- the prompt

-- what is asked
abbrev pub mode_status : Option Prompt → Asking
mode_status None = asking.Plain
mode_status (Some (Searching search)) = asking.Search
mode_status (Some (Replacing pattern put count)) = asking.Query
mode_status (Some p) = asking.Prompt

-- the label of a prompt, and the answer so far
pub record IsShownPrompt (p : Prompt) (s : PromptStatus) : Type 0 where
  pub label : s.label.now ≡ label p
  pub answer : s.answer.now ≡ typed_answer p

-- the open prompt, if one is open
abbrev pub IsPromptStatus : Option Prompt → Option PromptStatus → Type 0
IsPromptStatus None None = Unit {0}
IsPromptStatus (Some p) (Some s) = IsShownPrompt p s
IsPromptStatus prompt status = ⊥

-- ---- buffers

-- a buffer
pub record IsBufferStatus (b : OpenState) (s : BufferStatus) : Type 0 where
  pub name : s.name.now ≡ b.buffer.name
  pub changed : s.changed ≡ is_changed b
  pub waiting : s.waiting ≡ length (waiting b.buffer.content)
  pub unsaved : s.unsaved ≡ length b.buffer.unsaved

-- the point of a buffer: its line, how many characters stand before it in that, and the element that it stands after
pub record IsPointStatus (b : State) (s : PointStatus) : Type 0 where
  pub line : s.line ≡ line_index (text b.content) (place_of b.content b.point)
  pub column : s.column ≡ column_of (text b.content) (place_of b.content b.point)
  pub element : s.element ≡ b.point

-- ---- windows

-- the text rows of a window, and the name of the buffer that it shows
abbrev pub rows_and_name : Buffers → Window Viewport → ℕ × List ℕ
rows_and_name bs w = (w.height, (buffer_at w.shown.buffer bs).buffer.name)

abbrev pub told_rows_and_name : WindowStatus → ℕ × List ℕ
told_rows_and_name s = (s.rows, s.name.now)

-- each window, from the top
abbrev pub AreWindowStatuses : Workspace → List WindowStatus → Type 0
AreWindowStatuses w ss = map told_rows_and_name ss ≡ map (rows_and_name w.buffers) w.windows.windows
