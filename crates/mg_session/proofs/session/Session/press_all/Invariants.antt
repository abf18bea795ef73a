use Rattle.std.proofs.Common.{drop}
use Rattle.mg_session.specs.Moments.{Moment, seen, moment}
use Rattle.mg_session.specs.Running.{TakesKeys}
use Rattle.mg_session.specs.declared.course.Course.TheVariants.{On}
use Rattle.mg_session.proofs.session.Session.press_all.Given as goal

abbrev pub invariant-loop-key : goal.invariant-loop-key
invariant-loop-key g l = (behind : Moment)
    → TakesKeys l.self.trace (drop l.key-index l.keys) (moment l.editor (g.P.Port.calls l.port) (seen g.W.Write.contents l.screen) On) behind
    → TakesKeys l.self.trace l.keys (moment l.fn.editor (g.P.Port.calls l.fn.port) (seen g.W.Write.contents l.fn.screen) On) behind
