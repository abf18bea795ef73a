use Rattle.std.proofs.Common.{◌≡◌, drop}
use Rattle.rga_brief.specs.Summaries.{put_claims}
use Rattle.rga_brief.proofs.claims.put_all.Given as goal

-- with what is left the digests come to be those of all claims
abbrev pub invariant-loop-claim : goal.invariant-loop-claim
invariant-loop-claim l = put_claims l.digests.entries (drop l.claim-index l.claims) ≡ put_claims l.initial.digests.entries l.initial.claims
