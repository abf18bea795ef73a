-- What each command does.
use Rattle.std.specs.Prelude.{ℕ, Bool, true, false, Result, Ok}
use Rattle.mg_plain.specs.declared.command.Command.{Command}
use Rattle.mg_plain.specs.declared.command.Command.TheVariants.{Insert, Newline, OpenLine, NewlineAndIndent, ForwardChar, BackwardChar, BeginningOfLine, EndOfLine, BeginningOfBuffer, EndOfBuffer, NextLine, PreviousLine, ScrollUp, ScrollDown, ForwardWord, BackwardWord, DeleteChar, DeleteBackwardChar, KillLine, KillWord, KillRegion, CopyRegionAsKill, Yank, SetMarkCommand, ExchangePointAndMark, MarkWholeBuffer, TransposeChars, UpcaseWord, DowncaseWord, CapitalizeWord, SearchForward, SearchBackward, ReplaceOne, ReplaceAll, InsertText, ReplaceRange, FillParagraph}
use Rattle.mg_plain.specs.declared.outcome.Notice.{Notice}
use Rattle.mg_plain.specs.declared.cases.Casing.TheVariants.{Upper, Lower, Capital}
use Rattle.mg_plain.specs.declared.steps.Direction.TheVariants.{Forward, Backward}
use Rattle.mg_plain.specs.Situation.{Situation}
use Rattle.mg_plain.specs.Effect.{Effect}
use Rattle.mg_plain.specs.Characters.{newline_character}
use Rattle.mg_plain.specs.Motions.{forward_char, backward_char, beginning_of_line, end_of_line, beginning_of_buffer, end_of_buffer, by_lines, scroll, by_words}
use Rattle.mg_plain.specs.Insertions.{insert, typing, open_line, newline_and_indent, yank}
use Rattle.mg_plain.specs.Kills.{delete_char, delete_backward_char, kill_line, kill_word, kill_region}
use Rattle.mg_plain.specs.Mark.{copy_region_as_kill, set_mark_command, exchange_point_and_mark, mark_whole_buffer}
use Rattle.mg_plain.specs.Cases.{transpose_chars, recasing}
use Rattle.mg_plain.specs.Replacement.{search_forward, search_backward, replace_one, replace_all, replace_range}
use Rattle.mg_plain.specs.Gaps.{fill_paragraph}

-- the effect of a command with the argument `n` and a fill column, or why it is not done
abbrev pub effect : Command → ℕ → Situation → ℕ → Result Effect Notice
effect (Insert ch) n s column = Ok (insert ch n s)
effect Newline n s column = Ok (insert newline_character n s)
effect OpenLine n s column = Ok (open_line n s)
effect NewlineAndIndent n s column = Ok (newline_and_indent s)
effect ForwardChar n s column = forward_char n s
effect BackwardChar n s column = backward_char n s
effect BeginningOfLine n s column = Ok (beginning_of_line s)
effect EndOfLine n s column = Ok (end_of_line s)
effect BeginningOfBuffer n s column = Ok (beginning_of_buffer s)
effect EndOfBuffer n s column = Ok (end_of_buffer s)
effect NextLine n s column = by_lines Forward n s
effect PreviousLine n s column = by_lines Backward n s
effect (ScrollUp rows) n s column = scroll Forward rows s
effect (ScrollDown rows) n s column = scroll Backward rows s
effect ForwardWord n s column = by_words Forward n s
effect BackwardWord n s column = by_words Backward n s
effect DeleteChar n s column = delete_char n s
effect DeleteBackwardChar n s column = delete_backward_char n s
effect KillLine n s column = kill_line s
effect KillWord n s column = kill_word s
effect KillRegion n s column = kill_region s
effect CopyRegionAsKill n s column = copy_region_as_kill s
effect Yank n s column = Ok (yank s)
effect SetMarkCommand n s column = Ok (set_mark_command s)
effect ExchangePointAndMark n s column = exchange_point_and_mark s
effect MarkWholeBuffer n s column = Ok (mark_whole_buffer s)
effect TransposeChars n s column = transpose_chars s
effect UpcaseWord n s column = recasing Upper s
effect DowncaseWord n s column = recasing Lower s
effect CapitalizeWord n s column = recasing Capital s
effect (SearchForward pattern start) n s column = search_forward pattern start s
effect (SearchBackward pattern start) n s column = search_backward pattern start s
effect (ReplaceOne pattern put) n s column = replace_one pattern put s
effect (ReplaceAll pattern put) n s column = replace_all pattern put s
effect (InsertText put) n s column = Ok (typing s put)
effect (ReplaceRange lo hi put) n s column = replace_range lo hi put s
effect FillParagraph n s column = Ok (fill_paragraph column s)

-- whether a command needs memory: those that put or keep characters do, motions, searches and the mark do not
abbrev pub needs_memory : Command → Bool
needs_memory (Insert ch) = true
needs_memory Newline = true
needs_memory OpenLine = true
needs_memory NewlineAndIndent = true
needs_memory ForwardChar = false
needs_memory BackwardChar = false
needs_memory BeginningOfLine = false
needs_memory EndOfLine = false
needs_memory BeginningOfBuffer = false
needs_memory EndOfBuffer = false
needs_memory NextLine = false
needs_memory PreviousLine = false
needs_memory (ScrollUp rows) = false
needs_memory (ScrollDown rows) = false
needs_memory ForwardWord = false
needs_memory BackwardWord = false
needs_memory DeleteChar = true
needs_memory DeleteBackwardChar = true
needs_memory KillLine = true
needs_memory KillWord = true
needs_memory KillRegion = true
needs_memory CopyRegionAsKill = true
needs_memory Yank = true
needs_memory SetMarkCommand = false
needs_memory ExchangePointAndMark = false
needs_memory MarkWholeBuffer = false
needs_memory TransposeChars = true
needs_memory UpcaseWord = true
needs_memory DowncaseWord = true
needs_memory CapitalizeWord = true
needs_memory (SearchForward pattern start) = false
needs_memory (SearchBackward pattern start) = false
needs_memory (ReplaceOne pattern put) = true
needs_memory (ReplaceAll pattern put) = true
needs_memory (InsertText put) = true
needs_memory (ReplaceRange lo hi put) = true
needs_memory FillParagraph = true
