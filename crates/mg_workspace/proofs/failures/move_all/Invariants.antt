use Rattle.std.proofs.Common.{◌≡◌, ◌++◌, map, take, drop}
use Rattle.mg_workspace.specs.Failures.{moved_failed}
use Rattle.mg_workspace.proofs.failures.move_all.Given as goal

abbrev pub invariant-loop-index : goal.invariant-loop-index
invariant-loop-index l =
    l.standing.items ≡ map (moved_failed l.gone) (take l.index l.fn.standing.items) ++ drop l.index l.fn.standing.items
