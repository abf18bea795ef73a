use Rattle.mg_events.proofs.FaultLaws.{report_fault}
use Rattle.mg_events.proofs.laws.a_report_has_the_fault_of_the_first_demand_it_does_not_meet.Goals as goal

pub returns : goal.returns
returns c = report_fault
