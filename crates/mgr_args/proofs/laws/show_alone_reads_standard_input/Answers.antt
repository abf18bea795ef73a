use Rattle.mgr_args.proofs.ShowLaws.{only_memory, only_standard_input}
use Rattle.mgr_args.proofs.laws.show_alone_reads_standard_input.Goals as goal

pub returns-clause-job : goal.returns-clause-job
returns-clause-job c = only_standard_input

pub returns-clause-fault : goal.returns-clause-fault
returns-clause-fault c = only_memory
