use Rattle.rga_doc.proofs.Prelude.{rules, ◌≡◌, Ok, length, sym, ap, ◌∙◌, arith, nil_from_length, Content, join, content_of, join_nothing, text}
use Rattle.std.proofs.lemmas.Grind.{common_steps}
use Rattle.rga_doc.proofs.doc.DocTaker.apply_all.Goals as goal

-- where nothing was taken, the content is the same
pub invariant_of-self-else-not-is_empty : goal.invariant_of-self-else-not-is_empty
invariant_of-self-else-not-is_empty g c =
    let content : Content = g.S.Taker.content c.self.inside.store in
    let none : length c.args.ops.now ≡ 0 = grind (arith, common_steps, c.is_empty.ensures, c.if-not-is_empty.false) in
    let taken : c.apply_all-answer.result ≡ Ok tt = search rules in
    let same : g.S.Taker.content c.apply_all-answer.new.self ≡ content =
    c.apply_all-answer.ensures.whole taken ∙ ap (λ ops. join content (content_of ops)) (nil_from_length c.args.ops.now none) ∙ join_nothing content in
    (c.self.invariant.0, λ listed. c.self.invariant.1 listed ∙ ap text (sym same))
