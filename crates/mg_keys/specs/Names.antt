-- Commands by their names, as M-x takes them.
use Rattle.std.specs.Prelude.{ℕ, List, [], ◌∷◌, Option, Some, None, codes, if◌then◌else◌}
use Rattle.mg_keys.specs.declared.command.KeyCommand.TheVariants.{SetMarkCommand, BeginningOfLine, EndOfLine, BackwardChar, ForwardChar, DeleteChar, DeleteBackwardChar, NewlineAndIndent, Newline, OpenLine, KillLine, KillRegion, Yank, Recenter, NextLine, PreviousLine, IsearchForward, IsearchBackward, TransposeChars, ScrollUp, ScrollDown, Undo, BeginningOfBuffer, EndOfBuffer, BackwardWord, ForwardWord, KillWord, CapitalizeWord, DowncaseWord, UpcaseWord, FillParagraph, CopyRegionAsKill, QueryReplace, SaveBuffersKillEmacs, FindFile, SaveBuffer, ExchangePointAndMark, SwitchToBuffer, KillBuffer, MarkWholeBuffer, DeleteWindow, DeleteOtherWindows, SplitWindowVertically, OtherWindow}
use Rattle.mg_keys.specs.declared.names.Entry.{Entry}
use Rattle.mg_keys.specs.declared.names.NamedCommand.{NamedCommand}
use Rattle.mg_keys.specs.declared.names.NamedCommand.TheVariants.{Key, ReplicaExchange, ReplicaServe}
use Rattle.mg_keys.specs.KeyTable.{same_keys}

pub record Named : Type 0 where
  pub name : List ℕ
  pub command : NamedCommand

abbrev pub entry : List ℕ → NamedCommand → Named
entry name command = record { name = name; command = command }

abbrev pub names : List Named
names =
    entry (codes "set-mark-command") (Key SetMarkCommand) ∷
    entry (codes "beginning-of-line") (Key BeginningOfLine) ∷
    entry (codes "end-of-line") (Key EndOfLine) ∷
    entry (codes "backward-char") (Key BackwardChar) ∷
    entry (codes "forward-char") (Key ForwardChar) ∷
    entry (codes "delete-char") (Key DeleteChar) ∷
    entry (codes "delete-backward-char") (Key DeleteBackwardChar) ∷
    entry (codes "newline-and-indent") (Key NewlineAndIndent) ∷
    entry (codes "newline") (Key Newline) ∷
    entry (codes "open-line") (Key OpenLine) ∷
    entry (codes "kill-line") (Key KillLine) ∷
    entry (codes "kill-region") (Key KillRegion) ∷
    entry (codes "yank") (Key Yank) ∷
    entry (codes "recenter") (Key Recenter) ∷
    entry (codes "next-line") (Key NextLine) ∷
    entry (codes "previous-line") (Key PreviousLine) ∷
    entry (codes "isearch-forward") (Key IsearchForward) ∷
    entry (codes "isearch-backward") (Key IsearchBackward) ∷
    entry (codes "transpose-chars") (Key TransposeChars) ∷
    entry (codes "scroll-up") (Key ScrollUp) ∷
    entry (codes "scroll-down") (Key ScrollDown) ∷
    entry (codes "undo") (Key Undo) ∷
    entry (codes "beginning-of-buffer") (Key BeginningOfBuffer) ∷
    entry (codes "end-of-buffer") (Key EndOfBuffer) ∷
    entry (codes "backward-word") (Key BackwardWord) ∷
    entry (codes "forward-word") (Key ForwardWord) ∷
    entry (codes "kill-word") (Key KillWord) ∷
    entry (codes "capitalize-word") (Key CapitalizeWord) ∷
    entry (codes "downcase-word") (Key DowncaseWord) ∷
    entry (codes "upcase-word") (Key UpcaseWord) ∷
    entry (codes "fill-paragraph") (Key FillParagraph) ∷
    entry (codes "copy-region-as-kill") (Key CopyRegionAsKill) ∷
    entry (codes "query-replace") (Key QueryReplace) ∷
    entry (codes "save-buffers-kill-emacs") (Key SaveBuffersKillEmacs) ∷
    entry (codes "find-file") (Key FindFile) ∷
    entry (codes "save-buffer") (Key SaveBuffer) ∷
    entry (codes "exchange-point-and-mark") (Key ExchangePointAndMark) ∷
    entry (codes "switch-to-buffer") (Key SwitchToBuffer) ∷
    entry (codes "kill-buffer") (Key KillBuffer) ∷
    entry (codes "mark-whole-buffer") (Key MarkWholeBuffer) ∷
    entry (codes "delete-window") (Key DeleteWindow) ∷
    entry (codes "delete-other-windows") (Key DeleteOtherWindows) ∷
    entry (codes "split-window-vertically") (Key SplitWindowVertically) ∷
    entry (codes "other-window") (Key OtherWindow) ∷
    entry (codes "replica-exchange") ReplicaExchange ∷
    entry (codes "replica-serve") ReplicaServe ∷ []

abbrev pub first_of_name : List Named → List ℕ → Option NamedCommand
first_of_name [] text = None
first_of_name (n ∷ ns) text = if same_keys n.name text then Some n.command else first_of_name ns text

-- the command of that name
abbrev pub command_named : List ℕ → Option NamedCommand
command_named text = first_of_name names text

-- ---- the table as the code has it

abbrev pub first_named : List Entry → List ℕ → Option NamedCommand
first_named [] text = None
first_named (e ∷ es) text = if same_keys e.name.now text then Some e.command else first_named es text
