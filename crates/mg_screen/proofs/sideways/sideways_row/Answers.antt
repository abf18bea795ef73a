use Rattle.std.proofs.Common.{◌-◌, ◌+◌, arith, ◌∙◌, ap}
use Rattle.mg_screen.specs.Cells.{cells}
use Rattle.mg_screen.specs.Sideways.{cells_behind}
use Rattle.mg_screen.proofs.SidewaysLaws.{sideways_made}
use Rattle.mg_screen.proofs.sideways.sideways_row.Goals as goal

pub returns : goal.returns
returns c =
    let rest = c.rest_behind-rest.ensures.exact ∙ ap (λ n. cells_behind (n + 1) (cells c.args.line.now)) c.left_of.ensures.exact in
    sideways_made _ _ _ _ (c.args.columns - 1) _ _ _ _ _ c.new-row.ensures.bytes c.in_ok-push.ensures.bytes c.in_ok-push_times.ensures c.in_ok-push_line.ensures rest
    (omega (arith, c.requires.wide, c.rest_behind-rest.ensures.blanks)) (omega arith)
