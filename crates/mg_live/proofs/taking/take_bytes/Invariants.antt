use Rattle.std.proofs.Common.{Bool, false, drop}
use Rattle.rga_exchange.specs.Counting.{Calls}
use Rattle.mg_events.specs.Reading.{Reading}
use Rattle.mg_session.specs.Moments.{Known}
use Rattle.mg_session.specs.declared.course.Course.TheVariants.{On}
use Rattle.mg_live.specs.Running.{TakesBytes}
use Rattle.mg_live.specs.States.{Moment, moment}
use Rattle.mg_live.specs.Told.{IsTold}
use Rattle.mg_live.proofs.taking.take_bytes.Given as goal

abbrev pub invariant-loop-byte : goal.invariant-loop-byte
invariant-loop-byte g l = record {
  taken : (screen : Calls Known) (left : Reading) (some : Bool) (after : Moment)
      → TakesBytes (drop l.byte-index l.block) l.reader l.any (moment l.editor (g.P.Port.calls l.port) (g.P.Port.failures l.port) screen On l.live) left some after
      → TakesBytes l.block l.fn.reader false (moment l.fn.editor (g.P.Port.calls l.fn.port) (g.P.Port.failures l.fn.port) screen On l.fn.live) left some after;
  told : IsTold l.live l.editor;
}
