use Rattle.mg_live.proofs.BlockLaws.{block_goes}
use Rattle.mg_live.proofs.EventLaws.{event_goes}
use Rattle.mg_live.proofs.laws.a_live_buffer_goes_by_steps.Goals as goal

pub returns-clause-event : goal.returns-clause-event
returns-clause-event c event before after taken s t told made stands within kept calls adds leads =
    (event_goes s t told made leads event before after taken stands within kept calls adds).each

pub returns-clause-block : goal.returns-clause-block
returns-clause-block c before after block s t told made stands kept calls adds leads = (block_goes before after block s t told made leads stands kept calls adds).each
