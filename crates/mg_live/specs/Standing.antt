-- A live session beside what is held under the names of its buffers.
use Rattle.std.specs.Prelude.{◌≡◌, ◌⊎◌, ℕ, true, List, [], ◌∷◌, Option, None, Result, Ok, Err, encode_utf8_all}
use Rattle.std.specs.List.{Contains}
use Rattle.std.specs.Str.{is_utf8, all_scalars}
use Rattle.rga_ops.specs.Content.{Content, Holds, IsSound}
use Rattle.rga_ops.specs.declared.op.Op.{Op}
use Rattle.rga_lines.specs.Runs.{stretch_operations, run_deletions}
use Rattle.rga_lines.specs.declared.fault.LineFault.{LineFault}
use Rattle.rga_exchange.specs.Sending.{StandsFor}
use Rattle.mg_buffer.specs.OpenState.{OpenState}
use Rattle.mg_files.specs.Held.{Held, log_bytes}
use Rattle.mg_events.specs.Reading.{Told, key, report, refused}
use Rattle.mg_events.specs.Reports.{report_at}
use Rattle.mg_events.specs.declared.report.Report.{Report}
use Rattle.mg_events.specs.declared.report.Report.TheVariants.{One, Run, Deletions}
use Rattle.mg_minibuffer.specs.declared.ending.Request.TheVariants.{Find}
use Rattle.mg_session.specs.Keys.{request_of}
use Rattle.mg_workspace.specs.Buffers.{Buffers}
use Rattle.mg_editor.specs.Holding.{AreOpen, AreLogged, GoesOn, HaveOwnNames, IsOpen, IsOpenedBy}
use Rattle.mg_editor.specs.Meeting.{role_of}
use Rattle.mg_live.specs.Running.{TakesEvent}
use Rattle.mg_live.specs.States.{Moment}

-- ---- what the types keep

-- `AreOpen`; and of each open buffer the operations are well-formed, and the name is text
pub record AreKept (bs : Buffers) : Type 0 where
  pub are : AreOpen bs
  pub sound : (b : OpenState) → Contains bs.all b → IsSound b.buffer.content
  pub named : (b : OpenState) → Contains bs.all b → is_utf8 b.buffer.name ≡ true

-- So it is too between the press of a key and what it requests; and a name that is asked for is of characters.
abbrev pub AreKeptWithin : (event : Told) (before after : Moment) → TakesEvent event before after → Type 0
AreKeptWithin (key byte) before after taken =
    AreKept taken.1.pressed.work.buffers × ((name : List ℕ) → request_of taken.1.answer ≡ Find name → all_scalars name ≡ true)
AreKeptWithin (report line) before after taken = Unit {0}
AreKeptWithin (refused fault) before after taken = Unit {0}

-- ---- what is made and not told

-- the content has each of the operations
abbrev pub AreHeld : List Op → Content → Type 0
AreHeld ops c = (op : Op) → Contains ops op → Holds c op

-- the log stands for a content that has them
abbrev pub AreInLog : List Op → Option (List ℕ) → Type 0
AreInLog ops log = (held : Content) × StandsFor (log_bytes log) held × AreHeld ops held

-- The buffer of that name has them, if it is open, and else its log.
pub record AreSafe (name : List ℕ) (ops : List Op) (bs : Buffers) (s : Held) : Type 0 where
  pub open_buffer : (b : OpenState) → Contains bs.all b → b.buffer.name ≡ name → AreHeld ops b.buffer.content
  pub closed : (IsOpen name bs → ⊥) → AreInLog ops (s name).log

-- the name of the live buffer
abbrev pub live_name : Moment → List ℕ
live_name m = encode_utf8_all m.live.name

-- Each open buffer is kept beside the log that is held under its name, which no other has; and what was made in the live
-- buffer and is not told is safe.
pub record Stands (s : Held) (m : Moment) : Type 0 where
  pub kept : AreKept m.editor.work.buffers
  pub own : HaveOwnNames m.editor.work.buffers
  pub logged : AreLogged m.editor.work.buffers s
  pub spelled : all_scalars m.live.name ≡ true
  pub untold : AreSafe (live_name m) m.live.telling.untold m.editor.work.buffers s

-- ---- what a report says of others

abbrev pub operations_of : Report → List Op
operations_of (One op) = op ∷ []
operations_of (Run run) = stretch_operations run
operations_of (Deletions run) = run_deletions run
operations_of said = []

abbrev pub operations_read : Result Report LineFault → List Op
operations_read (Ok said) = operations_of said
operations_read (Err fault) = []

-- the operations that the line of a report says
abbrev pub operations_at : List ℕ → List Op
operations_at line = operations_read (report_at line)

-- ---- how an open buffer came to be

-- By steps, from one that was open before. Those of a key take nothing, but if a peer was to be met; or else the buffer was opened by what was
-- held. Those of a report take no more than it says.
abbrev pub ComesBy : (event : Told) (before after : Moment) → TakesEvent event before after → Held → OpenState → Held → Type 0
ComesBy (key byte) before after taken s d t =
    ((ops : List Op) × (role_of (request_of taken.1.answer) ≡ None → ops ≡ []) × GoesOn ops before.editor.work.buffers s d t)
    ⊎ ((name : List ℕ) × IsOpenedBy name taken.1.pressed.work s d t)
ComesBy (report line) before after taken s d t = GoesOn (operations_at line) before.editor.work.buffers s d t
ComesBy (refused fault) before after taken s d t = GoesOn [] before.editor.work.buffers s d t
