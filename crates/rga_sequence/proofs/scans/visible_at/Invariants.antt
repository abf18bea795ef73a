use Rattle.std.proofs.Common.{◌≡◌, drop}
use Rattle.std.specs.List.{slice_get}
use Rattle.rga_sequence.specs.Entries.{visible_ids}
use Rattle.rga_sequence.proofs.scans.visible_at.Given as goal

abbrev pub invariant-loop-entry : goal.invariant-loop-entry
invariant-loop-entry l = slice_get (visible_ids (drop l.entry-index l.entries)) l.left ≡ slice_get (visible_ids l.entries) l.k
