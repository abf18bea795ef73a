use Rattle.std.proofs.Common.{arith, sym, ◌∙◌}
use Rattle.mg_plain.specs.Paragraphs.{begins_paragraph}
use Rattle.mg_plain.proofs.ScanLaws.{back_step}
use Rattle.mg_plain.proofs.paragraphs.paragraph_begin.Goals as goal

pub loop-q-preserved : goal.loop-q-preserved
loop-q-preserved c = record {
  same = c.loop-q.invariant.same ∙ back_step (begins_paragraph c.args.text.now) c.loop-q.q c.loop-q-test.true (sym c.begins_paragraph.ensures ∙ c.if-not-begins_paragraph.true);
  within = omega arith;
}
