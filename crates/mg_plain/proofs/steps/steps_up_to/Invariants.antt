use Rattle.std.proofs.Common.{length, ◌-◌, ◌≡◌, ◌≤◌}
use Rattle.mg_plain.specs.Steps.{step, steps_up_to}
use Rattle.mg_plain.proofs.steps.steps_up_to.Given as goal

abbrev pub invariant-loop-i : goal.invariant-loop-i
invariant-loop-i l = record { same : steps_up_to (step l.fn.piece l.fn.direction l.text) l.fn.count l.fn.place ≡ steps_up_to (step l.fn.piece l.fn.direction l.text) (l.fn.count - l._i) l.q; within : l.q ≤ length l.text }
