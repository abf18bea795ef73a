use Rattle.mg_live.proofs.ReachLaws.{anywhere}
use Rattle.mg_live.proofs.StandingLaws.{noted_so}
use Rattle.mg_live.proofs.ToldLaws.{told_once_noted}
use Rattle.mg_live.proofs.taking.take_noted_key.Goals as goal

pub note_changes-requires : goal.note_changes-requires
note_changes-requires g c = anywhere c.take_key-course.new.live c.take_key-course.new.editor

pub returns-clause-taken : goal.returns-clause-taken
returns-clause-taken g c = λ screen.
    let noted = c.note_changes.ensures in
    (_, c.take_key-course.ensures screen, noted_so c.take_key-course.result c.take_key-course.new.live noted.noted noted.same)

pub returns-clause-told : goal.returns-clause-told
returns-clause-told g c = λ on.
    let key = c.take_key-course in
    let noted = c.note_changes.ensures in
    rw noted.same (told_once_noted key.new.editor key.result key.new.live c.note_changes.new.live c.note_changes.result noted.noted on)
