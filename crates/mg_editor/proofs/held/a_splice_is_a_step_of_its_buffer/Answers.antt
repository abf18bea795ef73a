use Rattle.std.proofs.Common.{[]}
use Rattle.mg_plain.specs.declared.command.Command.TheVariants.{ReplaceRange}
use Rattle.mg_editor.proofs.HoldingLaws.{spliced_on}
use Rattle.mg_editor.proofs.held.a_splice_is_a_step_of_its_buffer.Goals as goal

pub returns : goal.returns
returns c i lo hi put old new r s = spliced_on [] s i (ReplaceRange lo hi put) 1 old new r
