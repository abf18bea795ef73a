use Rattle.std.proofs.Common.{arith, length, sym, ◌∙◌}
use Rattle.mg_plain.specs.Words.{ends_word}
use Rattle.mg_plain.proofs.ScanLaws.{scan_here, scan_on}
use Rattle.mg_plain.proofs.words.word_end.Goals as goal

pub loop-e-preserved : goal.loop-e-preserved
loop-e-preserved c = record {
  same = c.loop-e.invariant.same ∙ scan_on (ends_word c.args.text.now) c.loop-e.e (length c.args.text.now) c.loop-e-test.true (sym c.ends_word.ensures ∙ c.if-not-ends_word.true);
  behind = omega arith;
  within = omega arith;
}

pub returns-else-not-ends_word-clause-end : goal.returns-else-not-ends_word-clause-end
returns-else-not-ends_word-clause-end c =
    sym (c.loop-e.invariant.same ∙ scan_here (ends_word c.args.text.now) c.loop-e.e (length c.args.text.now) c.loop-e-test.true (sym c.ends_word.ensures ∙ c.if-not-ends_word.false))
