use Rattle.rga_doc.proofs.Prelude.{◌≡◌, ℕ, ◌+◌, List, [], ◌∷◌, ◌++◌, drop, sym, ap, ◌∙◌, append_assoc, arith, Identifier, identifier, is_in_range, Op, Insert, restorations, from}
use Rattle.rga_doc.proofs.EditAnswers.{made_as_asked}
use Rattle.rga_doc.proofs.draft.Draft.restore.Goals as goal

pub loop-element-preserved : goal.loop-element-preserved
loop-element-preserved c =
    let old : List Op = c.loop-element.self.ops.items in
    let last : ℕ = c.loop-element.self.last in
    let replica : ℕ = c.loop-element.self.replica in
    let b : Identifier × ℕ = c.loop-element-item.result in
    let rest : List Op = restorations replica (last + 1) (drop (c.loop-element.element-index + 1) c.args.back.now) in
    let id : c.in-Ok.id ≡ identifier (last + 1) replica = made_as_asked (is_in_range (last + 1) replica) c.in-Ok.is c.new.ensures in
    record {
      ops =
          ap (λ ops. ops ++ rest) c.in_ok-push.ensures.items ∙ append_assoc old (Insert c.in-Ok.id b.0 b.1 ∷ []) rest
          ∙ ap (λ k. old ++ Insert k b.0 b.1 ∷ rest) id
          ∙ ap (λ xs. old ++ restorations replica last xs) (sym (from c.args.back.now c.loop-element.element-index b c.loop-element-test.true c.loop-element-item.is))
          ∙ c.loop-element.invariant.ops;
      last = omega (arith, c.loop-element.invariant.last);
      replica = c.loop-element.invariant.replica;
    }
