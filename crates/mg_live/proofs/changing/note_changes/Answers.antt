use Rattle.std.proofs.Common.{sym, subst, ◌∙◌}
use Rattle.mg_live.specs.Changes.{AreKept}
use Rattle.mg_live.proofs.changing.note_changes.Goals as goal

pub note-requires : goal.note-requires
note-requires g c = λ told had. subst (λ xs. AreKept c.kept.result told.text xs) (sym (c.as_slice-2.ensures.value ∙ c.in-Ok.ensures)) (c.kept.ensures told had)
