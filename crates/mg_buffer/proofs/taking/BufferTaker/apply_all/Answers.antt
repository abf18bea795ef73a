use Rattle.mg_buffer.proofs.Prelude.{rules, arith, ◌≡◌, [], refl, ap, ◌∙◌, join, content_of, Document}
use Rattle.std.proofs.lemmas.Grind.{common_steps}
use Rattle.rga_ops.proofs.ContentLaws.{join_nothing}
use Rattle.mg_buffer.proofs.KeptLaws.{kept_still, kept_taken}
use Rattle.mg_buffer.proofs.taking.BufferTaker.apply_all.Goals as goal

-- where there was no operation the document is as it was
pub invariant_of-self-then-is_empty : goal.invariant_of-self-then-is_empty
invariant_of-self-then-is_empty g c =
    let doc : Document = c.self.inside.doc in
    let none : c.args.ops.now ≡ [] = grind (arith, common_steps) in
    let content = ap (λ xs. join doc.content (content_of xs)) none ∙ join_nothing doc.content in
    kept_still doc c.take_all.new.doc c.self.inside.point c.self.inside.line c.self.inside.mark c.self.inside.history c.self.inside.history c.self.inside.listed c.self.invariant refl (omega arith)
    (c.in_ok-take_all.ensures.whole refl ∙ (λ k. record doc { content = content k; listed = c.in_ok-take_all.ensures.listed refl none k }))

pub invariant_of-self-2 : goal.invariant_of-self-2
invariant_of-self-2 g c =
    kept_taken c.self.inside.doc c.take_all.new.doc c.self.inside.point c.self.inside.line _ c.self.inside.mark c.self.inside.history c.self.inside.listed (content_of c.args.ops.now) c.self.invariant (search rules) refl refl
