use Rattle.std.proofs.Common.{length, ◌-◌, ◌≡◌, ◌≤◌}
use Rattle.mg_plain.specs.Steps.{step, steps}
use Rattle.mg_plain.proofs.steps.steps.Given as goal

abbrev pub invariant-loop-i : goal.invariant-loop-i
invariant-loop-i l = record { same : steps (step l.fn.piece l.fn.direction l.text) l.fn.count l.fn.place ≡ steps (step l.fn.piece l.fn.direction l.text) (l.fn.count - l._i) l.q; within : l.q ≤ length l.text }
