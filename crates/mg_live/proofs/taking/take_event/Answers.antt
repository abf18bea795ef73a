use Rattle.std.proofs.Common.{refl}
use Rattle.mg_session.specs.declared.course.Course.TheVariants.{On}
use Rattle.mg_live.specs.Reports.{counted}
use Rattle.mg_live.specs.declared.fault.ReportFault.TheVariants.{Line}
use Rattle.mg_live.proofs.ReachLaws.{is_told_so, refused_told}
use Rattle.mg_live.proofs.taking.take_event.Goals as goal

pub returns-in-Key-clause-taken : goal.returns-in-Key-clause-taken
returns-in-Key-clause-taken g c = λ screen left line. rw c.in-Key.is (_, c.take_noted_key.ensures.taken screen, refl)

pub returns-in-Line-clause-taken : goal.returns-in-Line-clause-taken
returns-in-Line-clause-taken g c = λ screen left line. rw (c.in-Line.is, line) (_, c.take_noted_line.ensures.taken (g.P.Port.calls c.args.port.now) (g.P.Port.failures c.args.port.now) screen, refl)

pub returns-in-Refused-clause-told : goal.returns-in-Refused-clause-told
returns-in-Refused-clause-told g c = λ on.
    let line = c.refuse_line in
    is_told_so (counted c.args.live.now) line.new.live c.args.editor.now (refused_told (Line c.in-Refused.fault) On (counted c.args.live.now) line.new.live line.result line.ensures) c.requires
