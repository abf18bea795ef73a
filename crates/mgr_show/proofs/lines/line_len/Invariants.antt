use Rattle.std.proofs.Common.{◌≡◌, ◌+◌, drop}
use Rattle.mgr_show.specs.Authors.{length_of_line}
use Rattle.mgr_show.proofs.lines.line_len.Given as goal

abbrev pub invariant-loop-index : goal.invariant-loop-index
invariant-loop-index l = l.index + length_of_line (drop l.index l.written) ≡ length_of_line l.written
