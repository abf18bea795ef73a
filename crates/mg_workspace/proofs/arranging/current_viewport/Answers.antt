use Rattle.std.proofs.Common.{◌<◌}
use Rattle.mg_workspace.specs.declared.viewport.Viewport.{Viewport}
use Rattle.mg_workspace.proofs.ViewportLaws.{shown_there}
use Rattle.mg_workspace.proofs.arranging.current_viewport.Goals as goal

pub returns-clause-within : goal.returns-clause-within
returns-clause-within c = λ n all. shown_there c.args.windows.now.windows c.current.result c.viewport_at.result (λ (x : Viewport). x.buffer < n) c.viewport_at.ensures all
