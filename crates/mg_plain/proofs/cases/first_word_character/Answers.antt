use Rattle.std.proofs.Common.{arith, length, sym, ◌∙◌}
use Rattle.mg_plain.specs.Words.{has_word_character}
use Rattle.mg_plain.proofs.ScanLaws.{scan_here, scan_on}
use Rattle.mg_plain.proofs.cases.first_word_character.Goals as goal

pub loop-i-preserved : goal.loop-i-preserved
loop-i-preserved c = record {
  same = c.loop-i.invariant.same ∙ scan_on (has_word_character c.args.text.now) c.loop-i.i (length c.args.text.now) c.loop-i-test.true (sym c.has_word_character.ensures ∙ c.if-not-has_word_character.true);
  within = omega arith;
}

pub returns-else-not-has_word_character : goal.returns-else-not-has_word_character
returns-else-not-has_word_character c =
    sym (c.loop-i.invariant.same ∙ scan_here (has_word_character c.args.text.now) c.loop-i.i (length c.args.text.now) c.loop-i-test.true (sym c.has_word_character.ensures ∙ c.if-not-has_word_character.false))
