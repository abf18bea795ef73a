use Rattle.std.proofs.Common.{◌≡◌}
use Rattle.rga_exchange.specs.Counting.{Calls}
use Rattle.mg_events.specs.Reading.{Reading}
use Rattle.mg_session.specs.Moments.{Known, seen}
use Rattle.mg_session.specs.declared.course.Course.TheVariants.{On}
use Rattle.mg_live.specs.Running.{ReadsKeys}
use Rattle.mg_live.specs.States.{Moment, moment}
use Rattle.mg_live.specs.Told.{IsTold}
use Rattle.mg_live.proofs.taking.take_keys.Given as goal

abbrev pub invariant-reads : goal.invariant-reads
invariant-reads g l = record {
  reads : (left : Reading) (after : Moment) (rest : Calls Known)
      → ReadsKeys l.reader (moment l.editor (g.P.Port.calls l.port) (g.P.Port.failures l.port) (seen g.W.Write.contents l.screen) l.course l.live) left after
      (seen g.R.Read.remaining l.keys) rest
      → ReadsKeys l.fn.reader (moment l.fn.editor (g.P.Port.calls l.fn.port) (g.P.Port.failures l.fn.port) (seen g.W.Write.contents l.fn.screen) l.fn.begun l.fn.live) left after
      (seen g.R.Read.remaining l.fn.keys) rest;
  told : l.course ≡ On → IsTold l.live l.editor;
}

abbrev pub decreases-reads : goal.decreases-reads
decreases-reads g l = l.keys.left
