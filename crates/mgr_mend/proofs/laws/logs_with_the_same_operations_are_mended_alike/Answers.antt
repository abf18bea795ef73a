use Rattle.mgr_mend.proofs.StayingLaws.{mended_alike}
use Rattle.mgr_mend.proofs.laws.logs_with_the_same_operations_are_mended_alike.Goals as goal

pub returns : goal.returns
returns c = mended_alike
