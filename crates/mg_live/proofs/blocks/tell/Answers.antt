use Rattle.std.proofs.Common.{refl, inl, ap, ◌∙◌}
use Rattle.rga_exchange.specs.RunLines.{runs_text}
use Rattle.mg_session.specs.Moments.{seen}
use Rattle.mg_session.specs.Memory.{CourseMemory as NoMemory}
use Rattle.mg_live.specs.States.{moment}
use Rattle.mg_live.specs.Statuses.{unmade}
use Rattle.mg_live.proofs.blocks.tell.Goals as goal

pub returns-in-Err : goal.returns-in-Err
returns-in-Err g c = λ calls faults. record {
  shown = moment c.args.editor.now calls faults (seen g.W.Write.contents c.args.screen.now) NoMemory c.args.live.now;
  shows = unmade c.args.live.now c.args.editor.now (inl (refl, refl)) refl;
  left = refl;
}

pub returns : goal.returns
returns g c = λ calls faults.
    let text = c.deref.ensures.value ∙ c.in-Ok.ensures ∙ ap runs_text c.told_operations.ensures in
    record {
      shown = moment c.show-course.new.editor calls faults (seen g.W.Write.contents c.show-course.new.screen) c.show-course.result c.show-course.new.live;
      shows = rw text at (c.show-course.ensures calls faults);
      left = ap (moment c.show-course.new.editor calls faults _ c.show-course.result) (rw c.can_tell-is_told.ensures at c.mark_told.ensures);
    }
