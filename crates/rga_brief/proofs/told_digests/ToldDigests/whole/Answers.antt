use Rattle.rga_brief.proofs.Prelude.{◌∙◌, digests_told}
use Rattle.rga_brief.proofs.told_digests.ToldDigests.whole.Goals as goal

pub returns-clause-ok : goal.returns-clause-ok
returns-clause-ok c = λ b. c.in_ok-put.ensures.ok b ∙ (λ k. digests_told (c.self.view_is k) b)
