use Rattle.std.proofs.Common.{not, ◌-◌, ◌<◌, ◌≡◌, ◌≤◌}
use Rattle.mg_plain.specs.Paragraphs.{is_nonblank}
use Rattle.mg_plain.specs.Scans.{least_from}
use Rattle.mg_plain.proofs.paragraphs.run_end.Given as goal

abbrev pub invariant-loop-e : goal.invariant-loop-e
invariant-loop-e l = record { same : least_from (λ k. not (is_nonblank l.text k)) l.fn.b l.hi ≡ least_from (λ k. not (is_nonblank l.text k)) l.e l.hi; behind : l.fn.b < l.e; within : l.e ≤ l.hi }

abbrev pub decreases-loop-e : goal.decreases-loop-e
decreases-loop-e l = l.hi - l.e
