use Rattle.mgr_mend.proofs.StayingLaws.{staying_only, staying_agree}
use Rattle.mgr_mend.proofs.laws.a_mended_log_agrees.Goals as goal

pub returns-clause-operations : goal.returns-clause-operations
returns-clause-operations c = staying_only

pub returns-clause-agreed : goal.returns-clause-agreed
returns-clause-agreed c = staying_agree
