use Rattle.mgr_mend.proofs.FittingLaws.{fitted_only, fitted_read, fitted_ends}
use Rattle.mgr_mend.proofs.laws.fitting.a_mended_note_is_read.Goals as goal

pub returns-clause-operations : goal.returns-clause-operations
returns-clause-operations c = fitted_only

pub returns-clause-read : goal.returns-clause-read
returns-clause-read c = fitted_read

pub returns-clause-ends : goal.returns-clause-ends
returns-clause-ends c = fitted_ends
