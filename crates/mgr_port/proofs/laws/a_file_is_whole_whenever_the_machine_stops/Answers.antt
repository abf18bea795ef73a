use Rattle.mgr_port.proofs.DiskLaws.{one_of_them, old_stands, kept_before}
use Rattle.mgr_port.proofs.laws.a_file_is_whole_whenever_the_machine_stops.Goals as goal

pub returns-clause-whole : goal.returns-clause-whole
returns-clause-whole c old found p bytes made u begins = one_of_them old found bytes p made u begins

pub returns-clause-kept : goal.returns-clause-kept
returns-clause-kept c p bytes made u begins = kept_before p bytes made u begins

pub returns-clause-left : goal.returns-clause-left
returns-clause-left c old found p bytes made u given may = old_stands old found p bytes made u given may
