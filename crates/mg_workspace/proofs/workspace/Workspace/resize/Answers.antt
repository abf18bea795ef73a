use Rattle.mg_workspace.proofs.ViewportLaws.{resized_shown}
use Rattle.mg_workspace.proofs.workspace.Workspace.resize.Goals as goal

pub invariant_of-self : goal.invariant_of-self
invariant_of-self g c = (
  c.requires.columns_from,
  c.requires.columns_to,
  resized_shown c.self.inside.buffers c.args.rows c.self.inside.windows c.resize.new.self c.self.invariant.2 c.resize.ensures.exact c.resize.ensures.stays,
)
