use Rattle.rga_world.proofs.ProgramLaws.{held_can_be_saved}
use Rattle.rga_world.proofs.laws.a_held_operation_can_be_saved.Goals as goal

pub returns : goal.returns
returns c = held_can_be_saved
