-- The texts of messages, as UTF-8.
use Rattle.std.specs.Prelude.{ℕ, List, [], ◌++◌, codes}
use Rattle.std.specs.Fmt.{decimal}
use Rattle.rga_ops.specs.RefusalName.{refusal_name}
use Rattle.rga_lines.specs.FaultName.{fault_name}
use Rattle.mg_plain.specs.NoticeMessage.{notice_message}
use Rattle.mg_minibuffer.specs.declared.message.Message.{Message}
use Rattle.mg_minibuffer.specs.declared.message.Message.TheVariants.{Nothing, Quit, UndefinedKey, Refused, BufferFull, IdentifiersUsedUp, Replaced, NoSuchCommand, WindowTooSmall, OnlyOneWindow, Wrote, NoChanges, TornLog, FileFault, NoSuchBuffer, BufferIsChanged, OnlyOneBuffer, TooManyBuffers, NotText, BadLine, RefusedLine, Exchanged, SocketFault, NoPort, Cut, WrongCount}

-- what is wrong with a line
abbrev pub line_text : ℕ → List ℕ → List ℕ
line_text line name = codes "line " ++ (decimal line ++ (codes ": " ++ name))

-- of a buffer with that name
abbrev pub message_text : Message → List ℕ → List ℕ
message_text Nothing name = []
message_text Quit name = codes "Quit"
message_text UndefinedKey name = codes "Undefined key"
message_text (Refused notice) name = notice_message notice
message_text BufferFull name = codes "Buffer full"
message_text IdentifiersUsedUp name = codes "Identifiers used up"
message_text (Replaced count) name = codes "Replaced " ++ decimal count
message_text NoSuchCommand name = codes "No such command"
message_text WindowTooSmall name = codes "Window too small"
message_text OnlyOneWindow name = codes "Only one window"
message_text Wrote name = codes "Wrote " ++ name
message_text NoChanges name = codes "No changes"
message_text (TornLog bytes) name = codes "Torn log: " ++ (decimal bytes ++ codes " bytes left out")
message_text FileFault name = codes "File fault"
message_text NoSuchBuffer name = codes "No such buffer"
message_text BufferIsChanged name = codes "Buffer is changed"
message_text OnlyOneBuffer name = codes "Only one buffer"
message_text TooManyBuffers name = codes "Too many buffers"
message_text NotText name = codes "text: not UTF-8"
message_text (BadLine line fault) name = line_text line (fault_name fault)
message_text (RefusedLine line refusal) name = line_text line (refusal_name refusal)
message_text (Exchanged sent received) name = codes "Sent " ++ (decimal sent ++ (codes ", received " ++ decimal received))
message_text SocketFault name = codes "Socket fault"
message_text NoPort name = codes "No port"
message_text Cut name = codes "Cut"
message_text WrongCount name = codes "Wrong count"
