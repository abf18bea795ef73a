use Rattle.std.proofs.Common.{◌≡◌, ◌≤◌, length}
use Rattle.rga_exchange.specs.Counting.{WritesAllBut}
use Rattle.rga_exchange.proofs.counted.CountedWrite.write_all.Given as goal

abbrev pub invariant-rest : goal.invariant-rest
invariant-rest g l = record {
  begun : WritesAllBut g.W.Write.contents l.fn.self l.self l.fn.buf l.rest;
  count : l.self.failures ≡ l.fn.self.failures;
  left : l.self.left ≤ l.fn.self.left;
}

abbrev pub decreases-rest : goal.decreases-rest
decreases-rest g l = length l.rest
