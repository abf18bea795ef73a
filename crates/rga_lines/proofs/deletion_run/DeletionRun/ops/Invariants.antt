use Rattle.rga_lines.proofs.Prelude.{◌≡◌, ◌++◌, ◌<◌, ◌≤◌, ◌+◌, true, identifier, is_in_range, deletions_from, run_deletions}
use Rattle.rga_lines.proofs.deletion_run.DeletionRun.ops.Given as goal

abbrev pub invariant-deletions : goal.invariant-deletions
invariant-deletions l = record {
  made : l.ops.items ++ deletions_from (identifier l.counter l.replica) l.left ≡ run_deletions l.fn.self;
  end : l.counter + l.left ≤ 9007199254740992;
  element : 0 < l.left → is_in_range l.counter l.replica ≡ true;
}

abbrev pub decreases-deletions : goal.decreases-deletions
decreases-deletions l = l.left
