use Rattle.std.proofs.Common.{◌∙◌, ap}
use Rattle.std.proofs.Math.Seq.{map-set_same}
use Rattle.mgr_port.specs.Notes.{closed}
use Rattle.mgr_port.proofs.notes.close_replaced.Goals as goal

pub loop-note-preserved : goal.loop-note-preserved
loop-note-preserved g c = map-set_same closed _ _ _ _ (ap closed c.close_replaced.ensures) ∙ c.loop-note.invariant
