use Rattle.mg_editor.proofs.RequestLaws.{request_goes}
use Rattle.mg_editor.proofs.held.a_request_takes_steps_of_buffers.Goals as goal

pub returns : goal.returns
returns c = request_goes
