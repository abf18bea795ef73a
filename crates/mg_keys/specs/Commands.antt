-- The steps that commands lead to.
use Rattle.std.specs.Prelude.{ℕ}
use Rattle.mg_plain.specs.declared.command.Command.TheVariants as run
use Rattle.mg_keys.specs.declared.command.KeyCommand.{KeyCommand}
use Rattle.mg_keys.specs.declared.command.KeyCommand.TheVariants.{SetMarkCommand, BeginningOfLine, EndOfLine, BackwardChar, ForwardChar, DeleteChar, DeleteBackwardChar, NewlineAndIndent, Newline, OpenLine, KillLine, KillRegion, Yank, Recenter, NextLine, PreviousLine, IsearchForward, IsearchBackward, TransposeChars, ScrollUp, ScrollDown, Undo, BeginningOfBuffer, EndOfBuffer, BackwardWord, ForwardWord, KillWord, CapitalizeWord, DowncaseWord, UpcaseWord, FillParagraph, CopyRegionAsKill, ExecuteExtendedCommand, QueryReplace, SaveBuffersKillEmacs, FindFile, SaveBuffer, ExchangePointAndMark, SwitchToBuffer, KillBuffer, MarkWholeBuffer, DeleteWindow, DeleteOtherWindows, SplitWindowVertically, OtherWindow}
use Rattle.mg_keys.specs.declared.step.Question.TheVariants as question
use Rattle.mg_keys.specs.declared.step.Step.{Step}
use Rattle.mg_keys.specs.declared.step.Step.TheVariants.{Run, Ask, Edge}
use Rattle.mg_keys.specs.declared.step.WindowCommand.TheVariants as window

abbrev pub step_of : KeyCommand → ℕ → Step
step_of SetMarkCommand n = Run run.SetMarkCommand n
step_of BeginningOfLine n = Run run.BeginningOfLine n
step_of EndOfLine n = Run run.EndOfLine n
step_of BackwardChar n = Run run.BackwardChar n
step_of ForwardChar n = Run run.ForwardChar n
step_of DeleteChar n = Run run.DeleteChar n
step_of DeleteBackwardChar n = Run run.DeleteBackwardChar n
step_of NewlineAndIndent n = Run run.NewlineAndIndent n
step_of Newline n = Run run.Newline n
step_of OpenLine n = Run run.OpenLine n
step_of KillLine n = Run run.KillLine n
step_of KillRegion n = Run run.KillRegion n
step_of Yank n = Run run.Yank n
step_of Recenter n = Edge window.Recenter
step_of NextLine n = Run run.NextLine n
step_of PreviousLine n = Run run.PreviousLine n
step_of IsearchForward n = Ask question.Forward
step_of IsearchBackward n = Ask question.Backward
step_of TransposeChars n = Run run.TransposeChars n
step_of ScrollUp n = Edge window.ScrollUp
step_of ScrollDown n = Edge window.ScrollDown
step_of Undo n = Ask question.Undo
step_of BeginningOfBuffer n = Run run.BeginningOfBuffer n
step_of EndOfBuffer n = Run run.EndOfBuffer n
step_of BackwardWord n = Run run.BackwardWord n
step_of ForwardWord n = Run run.ForwardWord n
step_of KillWord n = Run run.KillWord n
step_of CapitalizeWord n = Run run.CapitalizeWord n
step_of DowncaseWord n = Run run.DowncaseWord n
step_of UpcaseWord n = Run run.UpcaseWord n
step_of FillParagraph n = Run run.FillParagraph n
step_of CopyRegionAsKill n = Run run.CopyRegionAsKill n
step_of ExecuteExtendedCommand n = Ask question.Extended
step_of QueryReplace n = Ask question.Replace
step_of SaveBuffersKillEmacs n = Ask question.Quit
step_of FindFile n = Ask question.Find
step_of SaveBuffer n = Ask question.Save
step_of ExchangePointAndMark n = Run run.ExchangePointAndMark n
step_of SwitchToBuffer n = Ask question.Switch
step_of KillBuffer n = Ask question.Kill
step_of MarkWholeBuffer n = Run run.MarkWholeBuffer n
step_of DeleteWindow n = Edge window.Remove
step_of DeleteOtherWindows n = Edge window.Only
step_of SplitWindowVertically n = Edge window.Split
step_of OtherWindow n = Edge window.Other
