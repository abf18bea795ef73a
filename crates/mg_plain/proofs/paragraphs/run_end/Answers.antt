use Rattle.std.proofs.Common.{ap, arith, not, sym, ◌∙◌}
use Rattle.mg_plain.specs.Paragraphs.{is_nonblank}
use Rattle.mg_plain.proofs.ScanLaws.{scan_on}
use Rattle.mg_plain.proofs.paragraphs.run_end.Goals as goal

pub loop-e-preserved : goal.loop-e-preserved
loop-e-preserved c = record {
  same = c.loop-e.invariant.same ∙ scan_on (λ k. not (is_nonblank c.args.text.now k)) c.loop-e.e c.args.hi c.loop-e-test.true (ap not (sym c.is_nonblank.ensures ∙ c.if-is_nonblank.true));
  behind = omega arith;
  within = omega arith;
}
