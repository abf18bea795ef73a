use Rattle.rga_world.proofs.ProgramLaws.{one_save_in_log}
use Rattle.rga_world.proofs.laws.a_save_of_one_operation_is_an_append_of_its_line.Goals as goal

pub returns : goal.returns
returns c = one_save_in_log
