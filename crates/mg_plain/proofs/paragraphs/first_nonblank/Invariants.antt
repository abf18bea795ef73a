use Rattle.std.proofs.Common.{◌-◌, ◌≡◌, ◌≤◌}
use Rattle.mg_plain.specs.Paragraphs.{is_nonblank}
use Rattle.mg_plain.specs.Scans.{least}
use Rattle.mg_plain.proofs.paragraphs.first_nonblank.Given as goal

abbrev pub invariant-loop-b : goal.invariant-loop-b
invariant-loop-b l = record { same : least (is_nonblank l.text) l.fn.q (l.hi - l.fn.q) ≡ least (is_nonblank l.text) l.b (l.hi - l.b); behind : l.fn.q ≤ l.b; within : l.b ≤ l.hi }

abbrev pub decreases-loop-b : goal.decreases-loop-b
decreases-loop-b l = l.hi - l.b
