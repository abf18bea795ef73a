use Rattle.std.proofs.Common.{◌≡◌, Ok, refl}
use Rattle.mg_workspace.specs.Failures.{first_standing}
use Rattle.mg_session.specs.Courses.{session_answer}
use Rattle.mg_session.proofs.StandingLaws.{run_tells, strictly}
use Rattle.mg_session.proofs.session.run_keys.Goals as goal

pub returns-in-Ok : goal.returns-in-Ok
returns-in-Ok g c =
    let run = c.run-course in
    let told = run_tells g.R.Read.remaining c.session_of.result.trace c.args.keys.now run.new.keys refl run.ensures in
    let tells = strictly g.R.Read.remaining g.W.Write.contents c.args.keys.now run.new.keys c.args.screen.now run.new.screen
    c.is_strict.result c.failure.result run.result told in
    let last = run.new.editor in
    let is : session_answer c.is_strict.result c.failure.result run.result
    ≡ session_answer c.args.settings.now.strict (first_standing last.work.failures) run.result =
    λ k. session_answer (c.is_strict.ensures k) (c.failure.ensures k) run.result in
    rw c.session_answer.ensures (record {
      ran = record { told = _; opened = Ok _; loads = c.in-Ok.ensures.loaded; ran = (last, run.result, is, rw c.session_of.ensures at run.ensures) };
      flushed = tells.flushed;
      keys = tells.reads;
      screen = tells.writes;
      file = λ is. absurd (tells.file is);
    })
