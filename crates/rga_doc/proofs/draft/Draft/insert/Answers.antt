use Rattle.rga_doc.proofs.Prelude.{◌≡◌, ℕ, ◌+◌, List, [], ◌∷◌, ◌++◌, drop, sym, ap, ◌∙◌, append_assoc, arith, Identifier, identifier, is_in_range, Op, Insert, chain, from}
use Rattle.rga_doc.proofs.EditAnswers.{made_as_asked}
use Rattle.rga_doc.proofs.draft.Draft.insert.Goals as goal

pub loop-ch-preserved : goal.loop-ch-preserved
loop-ch-preserved c =
    let old : List Op = c.loop-ch.self.ops.items in
    let last : ℕ = c.loop-ch.self.last in
    let replica : ℕ = c.loop-ch.self.replica in
    let parent : Identifier = c.loop-ch.parent in
    let ch : ℕ = c.ch-item.result in
    let rest : List ℕ = drop (c.loop-ch.ch-index + 1) c.args.put.now in
    let id : c.in-Ok.id ≡ identifier (last + 1) replica = made_as_asked (is_in_range (last + 1) replica) c.in-Ok.is c.new.ensures in
    record {
      ops =
          ap (λ ops. ops ++ chain replica (last + 1) c.in-Ok.id rest) c.push_reserved.ensures.items
          ∙ append_assoc old (Insert c.in-Ok.id parent ch ∷ []) (chain replica (last + 1) c.in-Ok.id rest)
          ∙ ap (λ k. old ++ Insert k parent ch ∷ chain replica (last + 1) k rest) id
          ∙ ap (λ xs. old ++ chain replica last parent xs) (sym (from c.args.put.now c.loop-ch.ch-index ch c.loop-ch-test.true c.ch-item.is))
          ∙ c.loop-ch.invariant.ops;
      last = omega (arith, c.loop-ch.invariant.last);
      replica = c.loop-ch.invariant.replica;
      room = omega (arith, c.push_reserved.ensures.len, c.push_reserved.ensures.capacity, c.loop-ch.invariant.room);
    }
