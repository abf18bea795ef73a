use Rattle.std.proofs.Common.{◌≡◌, drop}
use Rattle.std.specs.List.{list_any}
use Rattle.mgr_mend.specs.Taking.{is_tied}
use Rattle.mgr_mend.proofs.guards.is_any_tied.Given as goal

-- those that are left
abbrev pub invariant-loop-op : goal.invariant-loop-op
invariant-loop-op g l = list_any (is_tied (g.S.Taker.content l.store)) l.ops ≡ list_any (is_tied (g.S.Taker.content l.store)) (drop l.op-index l.ops)
