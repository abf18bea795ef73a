use Rattle.std.proofs.Common.{◌≡◌}
use Rattle.mg_workspace.proofs.buffers.Buffers.list_all.Given as goal

abbrev pub invariant-loop-index : goal.invariant-loop-index
invariant-loop-index g l = l.self ≡ l.fn.self
