use Rattle.mg_editor.proofs.LoggedLaws.{stays_logged}
use Rattle.mg_editor.proofs.held.what_is_open_is_logged.Goals as goal

pub returns : goal.returns
returns c = stays_logged
