use Rattle.std.proofs.Common.{length, ◌-◌}
use Rattle.mg_plain.proofs.ReplacementLaws.{Replacing}
use Rattle.mg_plain.proofs.replacement.replacements.Given as goal

abbrev pub invariant-loop-i : goal.invariant-loop-i
invariant-loop-i l = Replacing l.pattern l.put l.text l.fn.point l.splices.items l.end

abbrev pub decreases-loop-i : goal.decreases-loop-i
decreases-loop-i l = length l.text - l.end
