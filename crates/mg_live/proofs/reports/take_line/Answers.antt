use Rattle.std.proofs.Common.{ap, sym, subst}
use Rattle.mg_live.specs.States.{Live}
use Rattle.mg_live.specs.Told.{WasTold}
use Rattle.mg_live.proofs.ReachLaws.{reached_from}
use Rattle.mg_live.proofs.reports.take_line.Goals as goal

pub returns-in-Ok-clause-reach : goal.returns-in-Ok-clause-reach
returns-in-Ok-clause-reach g c = λ told.
    let follow = c.follow in
    subst (λ r. WasTold r follow.new.live follow.new.editor) (sym c.reach_of-reach.ensures)
    (reached_from c.in-Ok.report c.args.editor.now c.args.live.now _ follow.new.editor follow.new.live follow.result follow.ensures (record {
      name = ap (λ (l : Live). l.name) c.live.view_is;
      untold = ap (λ (l : Live). l.telling.untold) c.live.view_is;
      changes = ap (λ (l : Live). l.changes) c.live.view_is;
    }) told)
