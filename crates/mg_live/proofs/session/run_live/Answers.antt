use Rattle.std.proofs.Common.{Err, inl, refl, rules}
use Rattle.mg_session.specs.Memory.{SessionMemory as Memory}
use Rattle.mg_live.proofs.StartLaws.{adds_nothing, one_open}
use Rattle.mg_live.proofs.StandingLaws.{session_ran}
use Rattle.mg_live.proofs.session.run_live.Goals as goal

pub note_start-begun-requires : goal.note_start-begun-requires
note_start-begun-requires g c =
    one_open c.args.settings.now (g.P.Port.calls c.args.port.now) (g.P.Port.calls c.open.new.port) c.in-Ok-open.editor c.in-Ok-open.ensures.loaded

pub returns-in-Err : goal.returns-in-Err
returns-in-Err g c = record {
  ran = record { told = _; opened = Err Memory; loads = inl (adds_nothing (g.P.Port.calls c.args.port.now)); ran = (refl, refl, refl) };
  flushed = λ _ was. was;
  keys = search rules;
  screen = search rules;
  file = search rules;
}

pub returns-in-Ok-open : goal.returns-in-Ok-open
returns-in-Ok-open g c =
    let has_run =
    session_ran g.R.Read.remaining g.W.Write.contents c.args.settings.now c.args.keys.now c.run-course.new.keys c.args.screen.now c.run-course.new.screen
    (g.P.Port.calls c.args.port.now) (g.P.Port.calls c.run-course.new.port) (g.P.Port.failures c.args.port.now) (g.P.Port.failures c.run-course.new.port)
    c.values-asked.result.now c.is_strict.result c.failure.result c.session_answer.result (g.P.Port.failures c.open.new.port)
    c.values-asked.ensures.exact c.is_strict.ensures c.in-Ok-open.ensures.loaded c.in-Ok-open.ensures.device (c.note_start-begun.ensures c.in-Ok.ensures) c.run-course.ensures c.failure.ensures
    c.session_answer.ensures in
    record { ran = has_run.ran; flushed = has_run.tells.flushed; keys = has_run.tells.reads; screen = has_run.tells.writes; file = λ is. absurd (has_run.tells.file is) }
