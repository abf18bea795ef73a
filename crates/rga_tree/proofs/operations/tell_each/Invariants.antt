use Rattle.std.proofs.Common.{take}
use Rattle.rga_tree.proofs.operations.tell_each.Given as goal

-- the operations so far were heard
abbrev pub invariant-loop-op : goal.invariant-loop-op
invariant-loop-op g l = g.L.Listener.hears l.initial.listener (take l.op-index l.ops) l.listener
