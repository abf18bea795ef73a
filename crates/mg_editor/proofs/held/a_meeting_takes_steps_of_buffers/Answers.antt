use Rattle.mg_editor.proofs.MeetingLaws.{meeting_goes}
use Rattle.mg_editor.proofs.held.a_meeting_takes_steps_of_buffers.Goals as goal

pub returns : goal.returns
returns g c = meeting_goes
