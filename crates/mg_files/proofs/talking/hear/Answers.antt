use Rattle.std.proofs.Common.{refl, subst}
use Rattle.mg_buffer.specs.OpenState.{OpenState}
use Rattle.mg_files.specs.Talking.{HearsOver}
use Rattle.mg_files.proofs.talking.hear.Goals as goal

pub returns : goal.returns
returns g c =
    let s = c.receive.ensures in
    let i = c.opened.inside in
    let d : OpenState = record { buffer = c.receive.new.taker; whole = i.whole; text_waits = i.text_waits; runs = i.runs; brief = i.brief } in
    subst (λ (b : OpenState). HearsOver g.L.Read.remaining c.args.reader.now c.receive.new.reader c.receive.result b d) c.opened.view_is
    (record { lines = s.lines; outcome = s.outcome; joined = s.joined; device = s.device; rest = refl })
