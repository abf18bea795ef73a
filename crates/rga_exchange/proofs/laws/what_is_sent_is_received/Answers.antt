use Rattle.rga_exchange.proofs.MeetingLaws.{sent_is_received}
use Rattle.rga_exchange.proofs.laws.what_is_sent_is_received.Goals as goal

pub returns : goal.returns
returns c = sent_is_received
