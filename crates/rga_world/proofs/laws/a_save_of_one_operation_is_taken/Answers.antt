use Rattle.rga_world.proofs.ProgramLaws.{one_not_refused}
use Rattle.rga_world.proofs.laws.a_save_of_one_operation_is_taken.Goals as goal

pub returns : goal.returns
returns c = one_not_refused
