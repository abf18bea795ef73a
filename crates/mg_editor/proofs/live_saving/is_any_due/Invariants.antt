use Rattle.std.proofs.Common.{◌≡◌, drop}
use Rattle.mg_editor.specs.LiveSaving.{is_any_due}
use Rattle.mg_editor.proofs.live_saving.is_any_due.Given as goal

abbrev pub invariant-loop-index : goal.invariant-loop-index
invariant-loop-index g l = is_any_due l.writing 0 l.work.buffers.all ≡ is_any_due l.writing l.index (drop l.index l.work.buffers.all)
