use Rattle.std.proofs.Common.{rules, length}
use Rattle.mg_workspace.specs.Viewports.{ShowThese}
use Rattle.mg_workspace.proofs.workspace.Workspace.buffer_shown.Goals as goal

pub returns-clause-within : goal.returns-clause-within
returns-clause-within g c =
    let each : ShowThese (length c.args.self.now.buffers.all) c.self.inside.windows.windows = search rules in
    c.buffer_at.ensures.within (length c.args.self.now.buffers.all) each
