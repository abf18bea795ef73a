use Rattle.std.proofs.Common.{◌++◌, ap, subst, ◌∙◌}
use Rattle.rga_exchange.specs.Counting.{WritesAllBut}
use Rattle.rga_exchange.proofs.LogTextLemmas.{ended}
use Rattle.rga_exchange.proofs.runs.push_front.Goals as goal

pub returns-clause-ok : goal.returns-clause-ok
returns-clause-ok g c =
    subst (λ l. WritesAllBut g.W.Write.contents c.args.writer.now c.take_line.new.writer (c.args.block.now ++ l) c.take_line.new.self) (ap ended (c.as_bytes.ensures.value ∙ c.in_ok-line.ensures.line)) c.in_ok-take_line.ensures.ok
