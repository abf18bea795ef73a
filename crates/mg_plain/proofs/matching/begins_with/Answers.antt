use Rattle.std.proofs.Common.{arith, sym, ◌∙◌}
use Rattle.mg_plain.proofs.MatchLaws.{alike_here, nothing_left, other_here}
use Rattle.mg_plain.proofs.matching.begins_with.Goals as goal

pub loop-k-preserved : goal.loop-k-preserved
loop-k-preserved c = record {
  same = c.loop-k.invariant.same ∙ alike_here c.args.pattern.now c.args.text.now c.loop-k.k c.index-pattern-k.result c.index-text-k.result c.loop-k-test.true c.index-pattern-k.is c.if-k-text.false c.index-text-k.is (sym c.alike.ensures ∙ c.if-not-alike.false);
  within = omega arith;
  inside = omega arith;
}

pub returns-then-k-text : goal.returns-then-k-text
returns-then-k-text c = sym (c.loop-k.invariant.same ∙ nothing_left c.args.pattern.now c.args.text.now c.loop-k.k c.loop-k-test.true c.if-k-text.true)

pub returns-then-not-alike : goal.returns-then-not-alike
returns-then-not-alike c = sym (c.loop-k.invariant.same ∙ other_here c.args.pattern.now c.args.text.now c.loop-k.k c.index-pattern-k.result c.index-text-k.result c.loop-k-test.true c.index-pattern-k.is c.if-k-text.false c.index-text-k.is (sym c.alike.ensures ∙ c.if-not-alike.true))
