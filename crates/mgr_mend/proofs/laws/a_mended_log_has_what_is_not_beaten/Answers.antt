use Rattle.mgr_mend.proofs.StayingLaws.{staying_operations, staying_members}
use Rattle.mgr_mend.proofs.laws.a_mended_log_has_what_is_not_beaten.Goals as goal

pub returns-clause-operations : goal.returns-clause-operations
returns-clause-operations c = staying_operations

pub returns-clause-contains : goal.returns-clause-contains
returns-clause-contains c = λ bytes op writable. staying_members bytes writable op
