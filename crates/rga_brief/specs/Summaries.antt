-- The claims of a summary, and the summary of claims.
use Rattle.std.specs.Prelude.{List, [], ◌∷◌, map, Option, Some, None, if◌then◌else◌}
use Rattle.std.specs.Option.{option_or}
use Rattle.std.specs.BTreeMap.{insert_entry}
use Rattle.rga_brief.specs.declared.block.Block.{Block}
use Rattle.rga_brief.specs.declared.digests.Digests.{Digests}
use Rattle.std.specs.Ordering.{eq_by_cmp}
use Rattle.rga_brief.specs.Digest.{block_cmp}
use Rattle.rga_brief.specs.Summary.{Summary}
use Rattle.rga_brief.specs.declared.claim.Claim.{Claim}

abbrev pub entry_claim : Block × Digests → Claim
entry_claim e = record { block = e.0; digests = e.1 }

-- a claim for each block, by rising block
abbrev pub claims_of : Summary → List Claim
claims_of s = map entry_claim s

-- a claim replaces the one of its block, if there is one
abbrev pub put_claim : Summary → Claim → Summary
put_claim s claim = insert_entry block_cmp s claim.block claim.digests

abbrev pub put_claims : Summary → List Claim → Summary
put_claims s [] = s
put_claims s (claim ∷ claims) = put_claims (put_claim s claim) claims

-- the summary of the claims
abbrev pub summary_from : List Claim → Summary
summary_from claims = put_claims [] claims

-- the digests of the last claim of the block, if there is one
abbrev pub last_claimed : Block → List Claim → Option Digests
last_claimed block [] = None
last_claimed block (claim ∷ claims) =
    option_or (last_claimed block claims) (if eq_by_cmp block_cmp block claim.block then Some claim.digests else None)
