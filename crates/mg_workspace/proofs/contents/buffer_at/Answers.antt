use Rattle.std.proofs.Common.{◌<◌}
use Rattle.mg_workspace.specs.declared.viewport.Viewport.{Viewport}
use Rattle.mg_workspace.proofs.ContentLaws.{buffer_there}
use Rattle.mg_workspace.proofs.ViewportLaws.{shown_there}
use Rattle.mg_workspace.proofs.contents.buffer_at.Goals as goal

pub returns-clause-exact : goal.returns-clause-exact
returns-clause-exact c = buffer_there c.args.windows.now.windows c.args.window c.viewport_at.result c.viewport_at.ensures

pub returns-clause-within : goal.returns-clause-within
returns-clause-within c = λ n all. shown_there c.args.windows.now.windows c.args.window c.viewport_at.result (λ (x : Viewport). x.buffer < n) c.viewport_at.ensures all
