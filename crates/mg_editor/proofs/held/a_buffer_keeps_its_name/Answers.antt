use Rattle.mg_editor.proofs.RemovalLaws.{gone_on_named}
use Rattle.mg_editor.proofs.held.a_buffer_keeps_its_name.Goals as goal

pub returns : goal.returns
returns c = gone_on_named
