use Rattle.std.proofs.Common.{◌∙◌, ◌&&◌, ap, refl}
use Rattle.std.specs.Prelude.{is_ok}
use Rattle.mg_editor.specs.Meeting.{role_of}
use Rattle.mg_session.specs.Keys.{course_behind}
use Rattle.mg_live.specs.Made.{if_memory}
use Rattle.mg_live.proofs.TakenKeyLaws.{key_live, met_as}
use Rattle.mg_live.proofs.keys.take_key.Goals as goal

pub returns : goal.returns
returns g c = λ screen.
    let press = c.press-request.ensures in
    let carry = c.carry-answer.ensures in
    let from = c.press-request.new.editor in
    let asked = c.press-request.result in
    let answer = c.carry-answer.result in
    let noted = c.note_made-noted.result in
    let noted_opened = c.note_opened-noted_opened.result in
    record {
      answer = press.0;
      pressed = press.1;
      carry_answer = answer;
      noted = is_ok noted;
      noted_opened = is_ok noted_opened;
      presses = press.2;
      carried = rw (press.4, press.3) at carry.carried;
      device = carry.device;
      met = rw (press.4, press.3) at (met_as _ (role_of asked) from c.carry-answer.new.self answer carry.met);
      screen = refl;
      live = key_live c.args.editor.now from c.carry-answer.new.self press.1 press.0 c.args.live.now c.count_key.new.live c.note_made-noted.new.live
          c.keep_saved.new.live c.note_opened-noted_opened.new.live (is_ok noted) (is_ok noted_opened) c.is_open-was_open.result c.is_save-saves.result answer asked
          c.count_key.ensures (c.note_made-noted.ensures _ _ c.mark_current-mark.ensures) press.3 c.keep_saved.ensures c.is_save-saves.ensures press.4
          c.note_opened-noted_opened.ensures c.is_open-was_open.ensures;
      course = c.go_on.ensures ∙ ap (if_memory (is_ok noted && is_ok noted_opened)) (c.course_behind-course.ensures ∙ ap course_behind press.4);
    }
