use Rattle.std.proofs.Common.{drop, ◌≡◌}
use Rattle.mg_plain.specs.Effect.{place_after}
use Rattle.mg_plain.proofs.edit.carry_over.Given as goal

abbrev pub invariant-loop-splice : goal.invariant-loop-splice
invariant-loop-splice l = place_after l.splices l.fn.q ≡ place_after (drop l.splice-index l.splices) l.place
