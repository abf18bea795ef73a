use Rattle.rga_doc.proofs.Prelude.{ap, ◌∙◌, Content, join, content_of, order, Document}
use Rattle.rga_doc.proofs.RevertLaws.{revert_order}
use Rattle.rga_doc.proofs.doc.Doc.revert.Goals as goal

pub returns-clause-place : goal.returns-clause-place
returns-clause-place g c =
    let content : Content = c.args.self.now.content in
    ap (λ (d : Document). order d.content) c.in_ok-_front.ensures.content
    ∙ ap (λ done. order (join content (content_of done))) (c.deref.ensures.value ∙ c.in_ok-ops.ensures.operations)
    ∙ revert_order c.args.self.now.limit c.args.self.now.replica content c.args.gone.now c.args.back.now c.in_ok-ops.ensures.exact
