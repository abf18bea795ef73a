use Rattle.rga_world.proofs.ProgramLaws.{restart_from_log}
use Rattle.rga_world.proofs.laws.a_restart_is_a_reading_of_the_log.Goals as goal

pub returns : goal.returns
returns c = restart_from_log
