use Rattle.mgr_mend.proofs.AcceptedLaws.{accepted_kept, accepted_counts, kept_stays, kept_refuses}
use Rattle.mgr_mend.proofs.laws.an_accepted_log_stays.Goals as goal

pub returns-clause-log : goal.returns-clause-log
returns-clause-log c = λ bytes only agreed. kept_stays bytes (accepted_kept bytes only agreed)

pub returns-clause-refused : goal.returns-clause-refused
returns-clause-refused c = λ bytes only agreed. kept_refuses bytes (accepted_kept bytes only agreed)

pub returns-clause-left_out : goal.returns-clause-left_out
returns-clause-left_out c = accepted_counts
