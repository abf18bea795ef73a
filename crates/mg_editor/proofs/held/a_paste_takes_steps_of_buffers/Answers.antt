use Rattle.std.proofs.Common.{[]}
use Rattle.mg_editor.proofs.HoldingLaws.{pasted_on}
use Rattle.mg_editor.proofs.held.a_paste_takes_steps_of_buffers.Goals as goal

pub returns : goal.returns
returns c put old new r s = pasted_on [] s put old new r
