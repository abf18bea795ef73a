-- Which keys are bound to which command.
use Rattle.std.specs.Prelude.{ℕ, List, [], ◌∷◌, ◌++◌, Bool, true, false, Option, Some, None, nat_eq, ◌&&◌, if◌then◌else◌}
use Rattle.std.specs.List.{list_any}
use Rattle.mg_keys.specs.Bytes.{escape_byte, control_x_byte}
use Rattle.mg_keys.specs.declared.command.KeyCommand.{KeyCommand}
use Rattle.mg_keys.specs.declared.command.KeyCommand.TheVariants.{SetMarkCommand, BeginningOfLine, EndOfLine, BackwardChar, ForwardChar, DeleteChar, DeleteBackwardChar, NewlineAndIndent, Newline, OpenLine, KillLine, KillRegion, Yank, Recenter, NextLine, PreviousLine, IsearchForward, IsearchBackward, TransposeChars, ScrollUp, ScrollDown, Undo, BeginningOfBuffer, EndOfBuffer, BackwardWord, ForwardWord, KillWord, CapitalizeWord, DowncaseWord, UpcaseWord, FillParagraph, CopyRegionAsKill, ExecuteExtendedCommand, QueryReplace, SaveBuffersKillEmacs, FindFile, SaveBuffer, ExchangePointAndMark, SwitchToBuffer, KillBuffer, MarkWholeBuffer, DeleteWindow, DeleteOtherWindows, SplitWindowVertically, OtherWindow}
use Rattle.mg_keys.specs.declared.table.Entry.{Entry}
use Rattle.mg_keys.specs.declared.table.Prefix.{Prefix}
use Rattle.mg_keys.specs.declared.table.Prefix.TheVariants.{Alone, Escape, ControlX}

-- a whole key sequence, and the command that it is bound to
pub record Row : Type 0 where
  pub keys : List ℕ
  pub command : KeyCommand

abbrev pub single_key : ℕ → KeyCommand → Row
single_key byte command = record { keys = byte ∷ []; command = command }

abbrev pub meta : ℕ → KeyCommand → Row
meta byte command = record { keys = escape_byte ∷ byte ∷ []; command = command }

abbrev pub control_x : ℕ → KeyCommand → Row
control_x byte command = record { keys = control_x_byte ∷ byte ∷ []; command = command }

-- the key sequences; behind ESC an upper-case letter counts as the lower-case one
abbrev pub rows : List Row
rows =
    single_key 0 SetMarkCommand ∷
    single_key 1 BeginningOfLine ∷
    single_key 5 EndOfLine ∷
    single_key 2 BackwardChar ∷
    single_key 6 ForwardChar ∷
    single_key 4 DeleteChar ∷
    single_key 127 DeleteBackwardChar ∷
    single_key 10 NewlineAndIndent ∷
    single_key 13 Newline ∷
    single_key 15 OpenLine ∷
    single_key 11 KillLine ∷
    single_key 23 KillRegion ∷
    single_key 25 Yank ∷
    single_key 12 Recenter ∷
    single_key 14 NextLine ∷
    single_key 16 PreviousLine ∷
    single_key 19 IsearchForward ∷
    single_key 18 IsearchBackward ∷
    single_key 20 TransposeChars ∷
    single_key 22 ScrollUp ∷
    single_key 31 Undo ∷
    meta 60 BeginningOfBuffer ∷
    meta 62 EndOfBuffer ∷
    meta 37 QueryReplace ∷
    meta 98 BackwardWord ∷
    meta 66 BackwardWord ∷
    meta 102 ForwardWord ∷
    meta 70 ForwardWord ∷
    meta 100 KillWord ∷
    meta 68 KillWord ∷
    meta 99 CapitalizeWord ∷
    meta 67 CapitalizeWord ∷
    meta 108 DowncaseWord ∷
    meta 76 DowncaseWord ∷
    meta 117 UpcaseWord ∷
    meta 85 UpcaseWord ∷
    meta 113 FillParagraph ∷
    meta 81 FillParagraph ∷
    meta 119 CopyRegionAsKill ∷
    meta 87 CopyRegionAsKill ∷
    meta 118 ScrollDown ∷
    meta 86 ScrollDown ∷
    meta 120 ExecuteExtendedCommand ∷
    meta 88 ExecuteExtendedCommand ∷
    control_x 24 ExchangePointAndMark ∷
    control_x 3 SaveBuffersKillEmacs ∷
    control_x 6 FindFile ∷
    control_x 19 SaveBuffer ∷
    control_x 117 Undo ∷
    control_x 104 MarkWholeBuffer ∷
    control_x 98 SwitchToBuffer ∷
    control_x 107 KillBuffer ∷
    control_x 48 DeleteWindow ∷
    control_x 49 DeleteOtherWindows ∷
    control_x 50 SplitWindowVertically ∷
    control_x 111 OtherWindow ∷ []

abbrev pub same_keys : List ℕ → List ℕ → Bool
same_keys [] [] = true
same_keys [] (k ∷ ks) = false
same_keys (j ∷ js) [] = false
same_keys (j ∷ js) (k ∷ ks) = nat_eq j k && same_keys js ks

-- `js` is shorter than `ks` and stands at its front
abbrev pub begins : List ℕ → List ℕ → Bool
begins [] [] = false
begins [] (k ∷ ks) = true
begins (j ∷ js) [] = false
begins (j ∷ js) (k ∷ ks) = begins js ks && nat_eq j k

abbrev pub first_with : List Row → List ℕ → Option KeyCommand
first_with [] keys = None
first_with (r ∷ rs) keys = if same_keys r.keys keys then Some r.command else first_with rs keys

-- the command of a whole key sequence
abbrev pub bound : List ℕ → Option KeyCommand
bound keys = first_with rows keys

-- there is a key sequence that these keys begin
abbrev pub begins_some : List ℕ → Bool
begins_some keys = list_any (λ r. begins keys r.keys) rows

-- ---- the table as the code has it

abbrev pub keys_of : Prefix → List ℕ
keys_of Alone = []
keys_of Escape = escape_byte ∷ []
keys_of ControlX = control_x_byte ∷ []

-- the command of the first entry with these keys
abbrev pub first_entry : List Entry → List ℕ → Option KeyCommand
first_entry [] keys = None
first_entry (e ∷ es) keys = if same_keys (keys_of e.prefix ++ e.byte ∷ []) keys then Some e.command else first_entry es keys
