use Rattle.mg_live.proofs.StartLaws.{start_stands}
use Rattle.mg_live.proofs.laws.a_session_stands_at_its_start.Goals as goal

pub returns : goal.returns
returns c = start_stands
