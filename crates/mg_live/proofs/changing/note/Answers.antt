use Rattle.std.proofs.Common.{ap, sym, ◌∙◌}
use Rattle.mg_live.specs.States.{Live}
use Rattle.mg_live.proofs.changing.note.Goals as goal

pub note-requires : goal.note-requires
note-requires c = c.requires c.in-Some.changes (sym (ap (λ (l : Live). l.changes) c.live.view_is) ∙ c.in-Some.is)
