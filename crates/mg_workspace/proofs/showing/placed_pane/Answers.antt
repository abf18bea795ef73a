use Rattle.std.proofs.Common.{arith, sym, ap, ◌∙◌, Some}
use Rattle.std.proofs.lemmas.Result.{IfOk-weaker}
use Rattle.mg_workspace.proofs.ShownWindows.{height_within, pane_there}
use Rattle.mg_workspace.proofs.showing.placed_pane.Goals as goal

pub pane-requires-clause-height_from : goal.pane-requires-clause-height_from
pane-requires-clause-height_from g c =
    (height_within c.args.windows.now.windows c.args.index c.height_at-height.result c.requires.on_screen.1.tall c.height_at-height.ensures).0

pub pane-requires-clause-height_to : goal.pane-requires-clause-height_to
pane-requires-clause-height_to g c =
    let screen = c.requires.on_screen in
    let within = height_within c.args.windows.now.windows c.args.index c.height_at-height.result screen.1.tall c.height_at-height.ensures in
    omega (arith, within.1, screen.1.whole, screen.2)

pub returns : goal.returns
returns g c =
    let placed = c.in_ok-placed.ensures in
    let height = c.height_at-height in
    let there = pane_there c.args.buffers.now.all c.args.windows.now.windows c.args.index height.result c.in_ok-placed.placed c.at.result.now height.ensures placed.exact c.at.ensures in
    IfOk-weaker c.pane.result _ _ (λ p is. there ∙ ap Some (sym is)) c.pane.ensures
