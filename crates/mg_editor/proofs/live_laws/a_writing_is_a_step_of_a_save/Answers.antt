use Rattle.mg_editor.proofs.SweepLaws.{saved_as}
use Rattle.mg_editor.proofs.live_laws.a_writing_is_a_step_of_a_save.Goals as goal

pub returns : goal.returns
returns c = saved_as
