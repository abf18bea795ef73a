use Rattle.std.proofs.Common.{ap}
use Rattle.mg_session.specs.Moments.{seen}
use Rattle.mg_live.specs.States.{moment}
use Rattle.mg_live.proofs.blocks.end_block.Goals as goal

pub returns : goal.returns
returns g c =
    let calls = g.P.Port.calls c.args.port.now in
    let after = g.P.Port.calls c.write.new.port in
    let failed = g.P.Port.failures c.args.port.now in
    let faults = g.P.Port.failures c.write.new.port in
    let first = seen g.W.Write.contents c.show_if-course.new.screen in
    let second = seen g.W.Write.contents c.tell_if-course.new.screen in
    let step = c.write.ensures first c.show_if-course.result in
    record {
      shown = moment c.show_if-course.new.editor calls failed first c.show_if-course.result c.show_if-course.new.live;
      written = moment c.write.new.editor after faults first c.show_if-course.result c.write.new.live;
      told = moment c.tell_if-course.new.editor after faults second c.tell_if-course.result c.tell_if-course.new.live;
      shows = rw (← c.has_more-more.ensures) (c.show_if-course.ensures calls failed);
      writes = rw (← c.writing_due-writing.ensures, ← c.mark_reported.ensures) step;
      tells = rw (← c.has_more-more.ensures, ← c.are_saves_due-fresh.ensures) (c.tell_if-course.ensures after faults);
      left = ap (moment c.tell_if-course.new.editor after faults second c.tell_if-course.result) c.end_due.ensures;
    }
