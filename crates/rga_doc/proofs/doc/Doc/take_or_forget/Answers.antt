use Rattle.rga_doc.proofs.Prelude.{rules, ◌≡◌, ap, ◌∙◌, list_answer, Document}
use Rattle.rga_doc.proofs.EditLaws.{splices_taken}
use Rattle.rga_doc.proofs.doc.Doc.take_or_forget.Goals as goal

-- a refusal changed nothing, and the store takes the operations
pub take_all-requires : goal.take_all-requires
take_all-requires g c =
    let old : Document = c.args.self.now in
    let same : c.take.new.self ≡ old = search rules in
    ap (λ (d : Document). list_answer d.limit d.content c.deref-2.result.now) (c.self.view_is ∙ same)
    ∙ ap (list_answer old.limit old.content) (c.deref-2.ensures.value ∙ c.requires.operations)
    ∙ splices_taken old.limit old.replica old.content c.args.splices.now c.requires.allowed
