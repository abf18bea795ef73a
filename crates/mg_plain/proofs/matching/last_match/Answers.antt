use Rattle.std.proofs.Common.{sym, ◌∙◌}
use Rattle.mg_plain.proofs.MatchLaws.{stands_within}
use Rattle.mg_plain.proofs.matching.last_match.Goals as goal

pub returns-clause-within : goal.returns-clause-within
returns-clause-within c = stands_within c.args.pattern.now c.args.text.now c.loop-start.i c.loop-start.invariant.within (sym c.stands_at.ensures ∙ c.loop-start-test.false)
