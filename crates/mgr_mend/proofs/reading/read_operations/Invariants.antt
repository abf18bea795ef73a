use Rattle.std.proofs.Common.{◌≡◌, ◌≤◌, ◌++◌, length}
use Rattle.std.specs.List.{flat_map}
use Rattle.mgr_mend.specs.Mending.{line_operations, all_lines, whole_operations}
use Rattle.mgr_mend.proofs.LinesLemmas.{count_line}
use Rattle.mgr_mend.proofs.reading.read_operations.Given as goal

abbrev pub invariant-lines : goal.invariant-lines
invariant-lines l = record {
  read : l.ops.items ++ flat_map line_operations (all_lines l.rest) ≡ whole_operations l.fn.bytes;
  counted : l.counts.items ++ flat_map count_line (all_lines l.rest) ≡ flat_map count_line (all_lines l.fn.bytes);
  within : length l.rest ≤ length l.fn.bytes;
}

abbrev pub decreases-lines : goal.decreases-lines
decreases-lines l = length l.rest
