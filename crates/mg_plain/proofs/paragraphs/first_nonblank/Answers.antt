use Rattle.std.proofs.Common.{arith, sym, ◌∙◌}
use Rattle.mg_plain.specs.Paragraphs.{is_nonblank}
use Rattle.mg_plain.proofs.ScanLaws.{found_later}
use Rattle.mg_plain.proofs.paragraphs.first_nonblank.Goals as goal

pub loop-b-preserved : goal.loop-b-preserved
loop-b-preserved c = record {
  same = c.loop-b.invariant.same ∙ found_later (is_nonblank c.args.text.now) c.loop-b.b c.args.hi c.loop-b-test.true (sym c.is_nonblank.ensures ∙ c.if-is_nonblank.false);
  behind = omega arith;
  within = omega arith;
}
