use Rattle.std.proofs.Common.{◌∙◌, ne_eqb, arith}
use Rattle.rga_exchange.proofs.WrittenLemmas.{begun_more}
use Rattle.rga_exchange.proofs.counted.CountedWrite.write_all.Goals as goal

pub rest-preserved : goal.rest-preserved
rest-preserved g c = record {
  begun = rw c.split_at.ensures.back (begun_more _ _ _ _ _ _ c.in_ok-n.n c.rest.invariant.begun c.in_ok-n.ensures.bytes);
  count = rw (ne_eqb c.in_ok-n.n 0 c.if-n-eq0.false) at c.in_ok-n.ensures.device ∙ c.rest.invariant.count;
  left = omega (arith, c.in_ok-n.ensures.calls.1, c.rest.invariant.left);
}
