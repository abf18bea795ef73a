use Rattle.mgr_port.proofs.WorldLaws.{one_holder}
use Rattle.mgr_port.proofs.laws.a_note_has_one_session.Goals as goal

pub returns : goal.returns
returns c path one two first second a b l alone still m = one_holder path one two first second a b l alone still m
