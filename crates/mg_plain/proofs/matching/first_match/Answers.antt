use Rattle.std.proofs.Common.{arith, sym, ◌∙◌}
use Rattle.mg_plain.proofs.MatchLaws.{match_later, stands_within}
use Rattle.mg_plain.proofs.matching.first_match.Goals as goal

pub loop-start-preserved : goal.loop-start-preserved
loop-start-preserved c = record {
  same = c.loop-start.invariant.same ∙ match_later c.args.pattern.now c.args.text.now c.loop-start.i c.loop-start.invariant.within (sym c.stands_at.ensures ∙ c.loop-start-test.true);
  behind = omega arith;
  within = omega arith;
}

pub returns-clause-within : goal.returns-clause-within
returns-clause-within c = stands_within c.args.pattern.now c.args.text.now c.loop-start.i c.loop-start.invariant.within (sym c.stands_at.ensures ∙ c.loop-start-test.false)
