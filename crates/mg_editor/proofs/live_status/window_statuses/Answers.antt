use Rattle.std.proofs.Common.{rules, ◌≡◌, ◌++◌, [], ◌∷◌}
use Rattle.mg_editor.proofs.FrameLaws.{told_on}
use Rattle.mg_editor.proofs.live_status.window_statuses.Goals as goal

pub loop-window-preserved : goal.loop-window-preserved
loop-window-preserved g c =
    let more : c.push.new.self.items ≡ c.loop-window.statuses.items ++ c.window_status.result ∷ [] = search rules in
    told_on _ _ _ _ c.window_status.result c.window_status.ensures c.loop-window.invariant more
