use Rattle.rga_exchange.specs.Counting.{Calls}
use Rattle.mg_session.specs.Moments.{Known, Moment, seen, moment}
use Rattle.mg_session.specs.Running.{ReadsKeys}
use Rattle.mg_session.specs.declared.course.Course.TheVariants.{On}
use Rattle.mg_session.proofs.session.Session.take_keys.Given as goal

abbrev pub invariant-reads : goal.invariant-reads
invariant-reads g l = (behind : Moment) (rest : Calls Known)
    → ReadsKeys l.self.trace
    (moment l.editor (g.P.Port.calls l.port) (seen g.W.Write.contents l.screen) On) behind (seen g.R.Read.remaining l.keys) rest
    → ReadsKeys l.self.trace
    (moment l.fn.editor (g.P.Port.calls l.fn.port) (seen g.W.Write.contents l.fn.screen) On) behind (seen g.R.Read.remaining l.fn.keys) rest

abbrev pub decreases-reads : goal.decreases-reads
decreases-reads g l = l.keys.left
