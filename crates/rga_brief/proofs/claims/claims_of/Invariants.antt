use Rattle.rga_brief.proofs.Prelude.{◌≡◌, map, entry_claim}
use Rattle.std.specs.Map.Iter.{deref_pair}
use Rattle.rga_brief.proofs.claims.claims_of.Given as goal

-- the claims so far
abbrev pub invariant-loop-block : goal.invariant-loop-block
invariant-loop-block l = l.claims.items ≡ map entry_claim (map deref_pair l.yielded)
