use Rattle.std.proofs.Common.{arith, sym, ◌∙◌}
use Rattle.mg_plain.specs.LineEnds.{begins_line}
use Rattle.mg_plain.proofs.ScanLaws.{back_step}
use Rattle.mg_plain.proofs.line_ends.line_begin.Goals as goal

pub loop-q-preserved : goal.loop-q-preserved
loop-q-preserved c = record {
  same = c.loop-q.invariant.same ∙ back_step (begins_line c.args.text.now) c.loop-q.q c.loop-q-test.true (sym c.begins_line.ensures ∙ c.if-not-begins_line.true);
  within = omega arith;
}
