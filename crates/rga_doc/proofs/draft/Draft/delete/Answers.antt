use Rattle.rga_doc.proofs.Prelude.{◌≡◌, ℕ, ◌+◌, List, [], ◌∷◌, ◌++◌, map, take, take_all, sym, ap, ◌∙◌, append_assoc, arith, take_more, map-append, Identifier, Delete}
use Rattle.rga_doc.proofs.draft.Draft.delete.Goals as goal

pub loop-id-preserved : goal.loop-id-preserved
loop-id-preserved c =
    let ids : List Identifier = c.args.elements.now in
    let i : ℕ = c.loop-id.id-index in
    let id : Identifier = c.id-item.result in
    let more : take (i + 1) ids ≡ take i ids ++ id ∷ [] = take_more ids i id c.loop-id-test.true ∙ ap (λ k. take i ids ++ k ∷ []) (sym c.id-item.is) in
    record {
      ops =
          c.push_reserved.ensures.items
          ∙ ap (λ ops. ops ++ Delete id ∷ []) c.loop-id.invariant.ops
          ∙ append_assoc c.args.self.now.ops.items (map Delete (take i ids)) (Delete id ∷ [])
          ∙ ap (λ ops. c.args.self.now.ops.items ++ ops) (sym (map-append Delete (take i ids) (id ∷ [])) ∙ ap (map Delete) (sym more));
      last = c.loop-id.invariant.last;
      replica = c.loop-id.invariant.replica;
      room = omega (arith, c.push_reserved.ensures.len, c.push_reserved.ensures.capacity, c.loop-id.invariant.room);
    }

pub returns-clause-ops : goal.returns-clause-ops
returns-clause-ops c = c.loop-id.invariant.ops ∙ ap (λ ids. c.args.self.now.ops.items ++ map Delete ids) (take_all c.loop-id.id-index c.args.elements.now c.loop-id-test.false)
