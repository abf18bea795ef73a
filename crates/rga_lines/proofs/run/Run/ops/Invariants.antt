use Rattle.rga_lines.proofs.Prelude.{◌≡◌, ◌++◌, ◌<◌, ◌≤◌, ◌+◌, true, length, identifier, is_in_range, run_operations, stretch_operations}
use Rattle.rga_lines.proofs.run.Run.ops.Given as goal

abbrev pub invariant-chars : goal.invariant-chars
invariant-chars l = record {
  made : l.ops.items ++ run_operations (identifier l.counter l.replica) l.parent l.rest ≡ stretch_operations l.fn.self;
  end : l.counter + length l.rest ≤ 9007199254740992;
  element : 0 < length l.rest → is_in_range l.counter l.replica ≡ true;
}

abbrev pub decreases-chars : goal.decreases-chars
decreases-chars l = length l.rest
