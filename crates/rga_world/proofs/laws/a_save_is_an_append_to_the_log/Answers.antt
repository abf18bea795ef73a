use Rattle.rga_world.proofs.ProgramLaws.{save_in_log}
use Rattle.rga_world.proofs.laws.a_save_is_an_append_to_the_log.Goals as goal

pub returns : goal.returns
returns c = save_in_log
