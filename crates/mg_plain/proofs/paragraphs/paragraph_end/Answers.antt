use Rattle.std.proofs.Common.{arith, length, sym, ◌∙◌}
use Rattle.mg_plain.specs.Paragraphs.{ends_paragraph}
use Rattle.mg_plain.proofs.ScanLaws.{scan_here, scan_on}
use Rattle.mg_plain.proofs.paragraphs.paragraph_end.Goals as goal

pub loop-q-preserved : goal.loop-q-preserved
loop-q-preserved c = record {
  same = c.loop-q.invariant.same ∙ scan_on (ends_paragraph c.args.text.now) c.loop-q.q (length c.args.text.now) c.loop-q-test.true (sym c.ends_paragraph.ensures ∙ c.if-not-ends_paragraph.true);
  behind = omega arith;
  within = omega arith;
}

pub returns-else-not-ends_paragraph-clause-end : goal.returns-else-not-ends_paragraph-clause-end
returns-else-not-ends_paragraph-clause-end c =
    sym (c.loop-q.invariant.same ∙ scan_here (ends_paragraph c.args.text.now) c.loop-q.q (length c.args.text.now) c.loop-q-test.true (sym c.ends_paragraph.ensures ∙ c.if-not-ends_paragraph.false))
