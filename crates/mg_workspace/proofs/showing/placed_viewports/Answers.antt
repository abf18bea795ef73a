use Rattle.std.proofs.Common.{rules, ◌≡◌, ◌++◌, [], ◌∷◌}
use Rattle.mg_workspace.proofs.ShownWindows.{taken_on}
use Rattle.mg_workspace.proofs.showing.placed_viewports.Goals as goal

pub loop-index-preserved : goal.loop-index-preserved
loop-index-preserved g c =
    let x = c.in_ok-viewport.viewport in
    let more : c.push.new.self.items ≡ c.loop-index.placed.items ++ x ∷ [] = search rules in
    taken_on _ c.loop-index.placed.items c.push.new.self.items c.loop-index.index x c.in_ok-viewport.ensures.exact c.loop-index.invariant more
