use Rattle.mgr_mend.specs.Mending.{whole_operations}
use Rattle.mgr_mend.proofs.StayingLaws.{stays_or_left_out}
use Rattle.mgr_mend.proofs.laws.each_line_stays_or_is_left_out.Goals as goal

pub returns : goal.returns
returns c = λ bytes line. stays_or_left_out (whole_operations bytes) line
