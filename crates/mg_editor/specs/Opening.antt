-- The editor that opens, and its text.
use Rattle.std.specs.Prelude.{ℕ, List, Result, Ok, Err}
use Rattle.rga_ops.specs.Order.{text}
use Rattle.rga_exchange.specs.declared.log.LogEnd.{LogEnd}
use Rattle.rga_exchange.specs.declared.log.LogEnd.TheVariants.{Torn}
use Rattle.mg_files.specs.Files.{Files}
use Rattle.mg_files.specs.Loading.{load_outcome}
use Rattle.mg_files.specs.declared.fault.LoadFault.{LoadFault}
use Rattle.mg_minibuffer.specs.declared.message.Message.{Message}
use Rattle.mg_minibuffer.specs.declared.message.Message.TheVariants.{Nothing, TornLog}
use Rattle.mg_minibuffer.specs.Dialogues.{dialogue}
use Rattle.mg_editor.specs.Editors.{Editor}
use Rattle.mg_screen.specs.Settings.{Values}
use Rattle.mg_workspace.specs.Opening.{workspace}
use Rattle.mg_workspace.specs.Workspaces.{workspace_buffer}

-- a log that was torn is told
abbrev pub message_of_end : LogEnd → Message
message_of_end (Torn bytes) = TornLog bytes
message_of_end end = Nothing

-- the editor with the buffer that was found so, or why that is not loaded
abbrev pub opened_editor : Values → Files → Result Editor LoadFault
opened_editor v found = elim (load_outcome v.name v.replica v.limit found) [
  | Ok l ↦ Ok (record { work = workspace v l.0; talk = dialogue (message_of_end l.1) })
  | Err fault ↦ Err fault
]

-- the text of the buffer that is current
abbrev pub current_text : Editor → List ℕ
current_text e = text (workspace_buffer e.work).buffer.content
