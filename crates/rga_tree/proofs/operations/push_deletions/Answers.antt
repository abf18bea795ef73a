use Rattle.std.proofs.Common.{◌≡◌, ℕ, ◌+◌, List, [], ◌∷◌, ◌++◌, map, take, take_all, sym, ap, ◌∙◌, append_assoc}
use Rattle.std.proofs.lemmas.List.{take_more, map-append}
use Rattle.rga_ops.specs.Identifier.{Identifier}
use Rattle.rga_ops.specs.declared.op.Op.TheVariants.{Delete}
use Rattle.rga_tree.proofs.operations.push_deletions.Goals as goal

pub loop-id-preserved : goal.loop-id-preserved
loop-id-preserved c =
    let ids : List Identifier = c.args.ids.now in
    let i : ℕ = c.loop-id.id-index in
    let id : Identifier = c.id-item.result in
    let more : take (i + 1) ids ≡ take i ids ++ id ∷ [] = take_more ids i id c.loop-id-test.true ∙ ap (λ k. take i ids ++ k ∷ []) (sym c.id-item.is) in
    c.in_ok-push.ensures.items
    ∙ ap (λ ops. ops ++ Delete id ∷ []) c.loop-id.invariant
    ∙ append_assoc c.args.ops.now.items (map Delete (take i ids)) (Delete id ∷ [])
    ∙ ap (λ ops. c.args.ops.now.items ++ ops) (sym (map-append Delete (take i ids) (id ∷ [])) ∙ ap (map Delete) (sym more))

pub returns : goal.returns
returns c = record { ok = c.loop-id.invariant ∙ ap (λ ids. c.args.ops.now.items ++ map Delete ids) (take_all c.loop-id.id-index c.args.ids.now c.loop-id-test.false) }
