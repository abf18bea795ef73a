use Rattle.std.proofs.Common.{◌≡◌, ◌++◌, length}
use Rattle.std.specs.Prelude.{string_bytes}
use Rattle.std.specs.List.{flat_map}
use Rattle.mgr_show.specs.Authors.{line_of, authored_lines}
use Rattle.mgr_show.proofs.lines.lines_text.Given as goal

-- what is in it and what is left are all lines
abbrev pub invariant-lines : goal.invariant-lines
invariant-lines l = string_bytes l.text ++ flat_map line_of (authored_lines l.rest) ≡ flat_map line_of (authored_lines l.fn.written)

abbrev pub decreases-lines : goal.decreases-lines
decreases-lines l = length l.rest
