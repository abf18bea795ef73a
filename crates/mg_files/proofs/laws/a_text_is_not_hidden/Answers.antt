use Rattle.mg_files.proofs.LogSteps.{text_stays}
use Rattle.mg_files.proofs.laws.a_text_is_not_hidden.Goals as goal

pub returns : goal.returns
returns c = text_stays
