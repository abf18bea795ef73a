use Rattle.std.proofs.Common.{◌≡◌, length}
use Rattle.mg_editor.specs.LiveSaving.{course, with_swept}
use Rattle.mg_editor.proofs.SweepLaws.{IsUnderway}
use Rattle.mg_editor.proofs.live_saving.sweep.Given as goal

abbrev pub invariant-loop-index : goal.invariant-loop-index
invariant-loop-index g l = record {
  underway : IsUnderway l.writing l.index l.initial.work.buffers.all l.work.buffers.all
      (course (g.P.Port.calls l.initial.port) (g.P.Port.failures l.initial.port) l.initial.work.failures l.initial.last)
      (course (g.P.Port.calls l.port) (g.P.Port.failures l.port) l.work.failures l.last);
  count : length l.work.buffers.all ≡ length l.initial.work.buffers.all;
  rest : l.work ≡ with_swept l.work.buffers.all l.work.failures l.initial.work;
  links : g.P.Port.links l.port ≡ g.P.Port.links l.initial.port;
}
