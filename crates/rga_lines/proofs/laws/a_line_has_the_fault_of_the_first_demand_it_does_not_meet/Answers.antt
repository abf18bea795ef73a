use Rattle.rga_lines.proofs.FaultLaws.{value_faults, line_faults, operation_faults}
use Rattle.rga_lines.proofs.laws.a_line_has_the_fault_of_the_first_demand_it_does_not_meet.Goals as goal

pub returns : goal.returns
returns c = record { value = value_faults; line = line_faults; operation = operation_faults }
