use Rattle.std.proofs.Common.{rules, ℕ, List, sym, subst}
use Rattle.rga_brief.specs.Told.{IsTold}
use Rattle.rga_brief.proofs.TellingLaws.{begins_summary, tells_summary}
use Rattle.std.proofs.lemmas.Result.{on_ok_weaker}
use Rattle.mg_files.proofs.asking.say.Goals as goal

pub returns : goal.returns
returns g c = λ held told.
    let contents = g.L.Write.contents in
    let lines : IsTold c.deref.result.now held = subst (λ (bytes : List ℕ). IsTold bytes held) (sym c.deref.ensures.value) (search rules) in
    record {
      told = on_ok_weaker c.send_lines.result (λ written. tells_summary contents c.args.writer.now c.send_lines.new.writer c.deref.result.now held lines written) c.send_lines.ensures.written;
      begun = begins_summary contents c.args.writer.now c.send_lines.new.writer c.deref.result.now held lines c.send_lines.ensures.begun;
      device = c.send_lines.ensures.device;
    }
