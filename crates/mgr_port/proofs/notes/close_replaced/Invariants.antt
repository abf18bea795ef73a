use Rattle.std.proofs.Common.{◌≡◌, map}
use Rattle.mgr_port.specs.Notes.{closed}
use Rattle.mgr_port.proofs.notes.close_replaced.Given as goal

abbrev pub invariant-loop-note : goal.invariant-loop-note
invariant-loop-note g l = map closed l.note-items ≡ map closed l.fn.notes.items
