use Rattle.std.proofs.Common.{[]}
use Rattle.mg_editor.proofs.HoldingLaws.{pressed_on}
use Rattle.mg_editor.proofs.held.a_press_takes_steps_of_buffers.Goals as goal

pub returns : goal.returns
returns c byte old new r s = pressed_on [] s byte old new r
