use Rattle.std.proofs.KnownBytes.{Appends-kept}
use Rattle.rga_exchange.proofs.WrittenLemmas.{front_whole}
use Rattle.rga_exchange.proofs.block.Block.finish.Goals as goal

pub returns-clause-ok : goal.returns-clause-ok
returns-clause-ok g c =
    Appends-kept (g.W.Write.contents c.args.writer.now.inner) (g.W.Write.contents c.write_to.new.writer.inner) (g.W.Write.contents c.flush.new.self.inner) c.args.self c.in_ok-write_to.ensures.written c.in_ok-flush.ensures.bytes

pub returns-clause-begun : goal.returns-clause-begun
returns-clause-begun g c =
    front_whole _ _ _ _ (Appends-kept (g.W.Write.contents c.args.writer.now.inner) (g.W.Write.contents c.write_to.new.writer.inner) (g.W.Write.contents c.flush.new.self.inner) c.args.self c.in_ok-write_to.ensures.written c.in_ok-flush.ensures.bytes)
