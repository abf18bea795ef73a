use Rattle.std.proofs.Common.{rules}
use Rattle.std.proofs.lemmas.Option.{MatchOption-at_some}
use Rattle.mgr_mend.proofs.GuardLemmas.{goes_on}
use Rattle.mgr_mend.proofs.guards.are_untied.Goals as goal

pub lines-preserved : goal.lines-preserved
lines-preserved g c =
    let cut = MatchOption-at_some _ _ _ c.in-Some-behind.is c.first_line.ensures in
    let ops = MatchOption-at_some _ _ _ c.in-Some.is c.in_ok-ops.ensures in
    goes_on (g.S.Taker.content c.args.store.now) c.lines.some c.is_either-some.result _ c.lines.rest.now c.first_line.result.0.now c.in-Some-behind.behind.now c.in-Some.ops.items c.deref.result.now c.is_any_tied.result c.lines.invariant cut.0 ops c.deref.ensures.value c.is_any_tied.ensures c.if-is_any_tied.false (search rules)
