use Rattle.std.proofs.Common.{refl}
use Rattle.mg_live.specs.States.{moment}
use Rattle.mg_live.proofs.StandingLaws.{noted_so}
use Rattle.mg_live.proofs.ToldLaws.{told_once_noted}
use Rattle.mg_live.proofs.taking.take_noted_line.Goals as goal

pub note_changes-requires : goal.note_changes-requires
note_changes-requires g c = c.take_line-course.ensures.reach c.requires

pub returns-clause-taken : goal.returns-clause-taken
returns-clause-taken g c = λ calls faults screen.
    let line = c.take_line-course in
    let noted = c.note_changes.ensures in
    (moment line.new.editor calls faults screen line.result.0 line.new.live, line.ensures.taken, refl, noted_so line.result.0 line.new.live noted.noted noted.same)

pub returns-clause-told : goal.returns-clause-told
returns-clause-told g c = λ on.
    let line = c.take_line-course in
    let noted = c.note_changes.ensures in
    rw noted.same (told_once_noted line.new.editor line.result.0 line.new.live c.note_changes.new.live c.note_changes.result noted.noted on)
