use Rattle.rga_exchange.proofs.StopLaws.{taken_up_to-iff, stream_is_its_lines}
use Rattle.rga_exchange.proofs.laws.streams_in_words.Goals as goal

pub returns : goal.returns
returns c = record { lines = taken_up_to-iff; stream = stream_is_its_lines }
