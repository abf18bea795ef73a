-- The editor, as its callers see it.
use Rattle.mg_minibuffer.specs.Dialogues.{Dialogue}
use Rattle.mg_workspace.specs.Workspaces.{Workspace}

-- what is worked on, and what is talked with the user
pub record Editor : Type 0 where
  pub work : Workspace
  pub talk : Dialogue
