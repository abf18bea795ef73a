use Rattle.std.proofs.Common.{◌≡◌, length}
use Rattle.rga_lines.specs.Log.{operations_of}
use Rattle.mgr_mend.specs.Mending.{all_lines}
use Rattle.mgr_mend.specs.Taking.{are_untied}
use Rattle.mgr_mend.proofs.GuardLemmas.{untied_after}
use Rattle.mgr_mend.proofs.guards.are_untied.Given as goal

-- with the lines that are left
abbrev pub invariant-lines : goal.invariant-lines
invariant-lines g l = are_untied (g.S.Taker.content l.store) (operations_of (all_lines l.bytes)) ≡ untied_after (g.S.Taker.content l.store) l.some (operations_of (all_lines l.rest))

abbrev pub decreases-lines : goal.decreases-lines
decreases-lines g l = length l.rest
