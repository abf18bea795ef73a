use Rattle.std.proofs.Common.{◌≡◌, take, count_by}
use Rattle.mg_screen.specs.Lines.{ends_line}
use Rattle.mg_screen.proofs.lines.newlines_of.Given as goal

abbrev pub invariant-loop-c : goal.invariant-loop-c
invariant-loop-c l = l.count ≡ count_by ends_line (take l.c-index l.text)
