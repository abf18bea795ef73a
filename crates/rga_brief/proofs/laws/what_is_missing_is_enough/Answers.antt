use Rattle.rga_brief.proofs.MissingLaws.{missing_taken, missing_suffices, both_end_alike}
use Rattle.rga_brief.proofs.laws.what_is_missing_is_enough.Goals as goal

pub returns : goal.returns
returns c = record { taken = missing_taken; joined = missing_suffices; one_content = both_end_alike }
