use Rattle.std.proofs.Common.{arith, length, sym, ◌∙◌}
use Rattle.std.specs.List.{slice_index}
use Rattle.mg_plain.specs.Characters.{is_newline}
use Rattle.mg_plain.proofs.ScanLaws.{scan_on}
use Rattle.mg_plain.proofs.line_ends.line_end.Goals as goal

pub loop-q-preserved : goal.loop-q-preserved
loop-q-preserved c = record {
  same = c.loop-q.invariant.same ∙ scan_on (λ k. is_newline (slice_index c.args.text.now k)) c.loop-q.q (length c.args.text.now) c.loop-q-test.true (sym c.has_newline.ensures ∙ c.if-not-has_newline.true);
  behind = omega arith;
  within = omega arith;
}
