use Rattle.rga_exchange.proofs.HeadLaws.{head-iff, head_first, head_absent, head_elsewhere}
use Rattle.rga_exchange.proofs.laws.heads_in_words.Goals as goal

pub returns : goal.returns
returns c = record { first = head_first; none = head_absent; elsewhere = head_elsewhere; which = head-iff }
