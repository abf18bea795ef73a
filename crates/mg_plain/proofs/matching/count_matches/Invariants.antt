use Rattle.std.proofs.Common.{length, ◌-◌}
use Rattle.mg_plain.proofs.ReplacementLaws.{Counting}
use Rattle.mg_plain.proofs.matching.count_matches.Given as goal

abbrev pub invariant-loop-i : goal.invariant-loop-i
invariant-loop-i l = Counting l.pattern l.text l.start l.count l.end

abbrev pub decreases-loop-i : goal.decreases-loop-i
decreases-loop-i l = length l.text - l.end
