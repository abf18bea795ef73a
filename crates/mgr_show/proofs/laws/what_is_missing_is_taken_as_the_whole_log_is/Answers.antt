use Rattle.mgr_show.proofs.TakenLaws.{missing_as_whole, whole_as_missing}
use Rattle.mgr_show.proofs.laws.what_is_missing_is_taken_as_the_whole_log_is.Goals as goal

pub returns : goal.returns
returns c = record { taken = missing_as_whole; whole = whole_as_missing }
