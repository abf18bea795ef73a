use Rattle.mg_live.proofs.EventLaws.{event_goes}
use Rattle.mg_live.proofs.laws.an_event_keeps_a_session_standing.Goals as goal

pub returns : goal.returns
returns c event before after taken s t told made stands within kept calls adds leads =
    (event_goes s t told made leads event before after taken stands within kept calls adds).stands
