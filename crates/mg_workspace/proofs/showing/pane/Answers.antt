use Rattle.std.proofs.Common.{refl, sym, ◌∙◌}
use Rattle.mg_buffer.proofs.PlaceLaws.{seen_point_within}
use Rattle.mg_screen.specs.Lines.{line_index}
use Rattle.mg_workspace.proofs.showing.pane.Goals as goal

pub invariant_of-result : goal.invariant_of-result
invariant_of-result g c =
    let seen = c.in_ok-sight.ensures in
    let line = seen.line ∙ (λ k. line_index (sym seen.characters k) (sym seen.point k)) in
    (seen_point_within _ _ _ seen refl, c.requires.height_from, c.requires.height_to, line)
