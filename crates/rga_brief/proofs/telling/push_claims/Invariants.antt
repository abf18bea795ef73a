use Rattle.rga_brief.proofs.Prelude.{◌≡◌, ◌++◌, map, drop, AllByRecursion, bytes_of_lines, IsInRange, claim_line}
use Rattle.rga_brief.proofs.telling.push_claims.Given as goal

-- what was written and what is still to come are all; and all are in range, if those to come are
abbrev pub invariant-loop-claim : goal.invariant-loop-claim
invariant-loop-claim l = record {
  lines : l.text.items ++ bytes_of_lines (map claim_line (drop l.claim-index l.claims)) ≡ l.initial.text.items ++ bytes_of_lines (map claim_line l.claims);
  range : AllByRecursion IsInRange (drop l.claim-index l.claims) → AllByRecursion IsInRange l.claims;
}
