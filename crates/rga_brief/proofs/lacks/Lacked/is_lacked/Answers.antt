use Rattle.rga_brief.proofs.Prelude.{◌≡◌, sym, ap, ◌∙◌, id_of, Op, block_of, digests_at, lacks_by, lacks_between}
use Rattle.rga_brief.proofs.MissingLaws.{same_block}
use Rattle.rga_brief.proofs.lacks.Lacked.is_lacked.Goals as goal

pub returns-then-eq-clause-exact : goal.returns-then-eq-clause-exact
returns-then-eq-clause-exact c =
    let op : Op = c.args.op.now in
    let l = c.self.inside in
    let same : l.block ≡ block_of (id_of op) = same_block l.block c.of-block.result (sym c.eq.ensures ∙ c.if-eq.true) ∙ c.of-block.ensures ∙ ap block_of c.id.ensures in
    c.lacks_by.ensures
    ∙ (λ k. lacks_by (c.self.invariant.0 k) (c.self.invariant.1 k) op)
    ∙ (λ k. lacks_by (digests_at l.own.now (same k)) (digests_at l.peer.now (same k)) op)
    ∙ (λ k. lacks_between (c.self.view_is k).own (c.self.view_is k).peer op)
