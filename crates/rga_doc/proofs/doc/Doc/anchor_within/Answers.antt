use Rattle.rga_doc.proofs.Prelude.{◌≤◌, length, Some, ap, sym, ◌∙◌, arith, Content, text, visible, place, text_long, Document, element_behind}
use Rattle.rga_doc.proofs.AnchorLaws.{left_behind, left_place}
use Rattle.rga_doc.proofs.doc.Doc.anchor_within.Goals as goal

pub returns-clause-element : goal.returns-clause-element
returns-clause-element g c =
    let content : Content = g.S.Taker.content c.self.inside.store in
    let within : c.args.k ≤ length (visible content) = omega (arith, c.requires, ap (λ (d : Document). length (text d.content)) c.self.view_is, text_long content) in
    sym (ap (λ (d : Document). element_behind d.content c.args.k) c.self.view_is) ∙ left_behind content c.args.k within ∙ ap Some (sym c.left_of.ensures)

pub returns-clause-place : goal.returns-clause-place
returns-clause-place g c =
    let content : Content = g.S.Taker.content c.self.inside.store in
    let within : c.args.k ≤ length (visible content) = omega (arith, c.requires, ap (λ (d : Document). length (text d.content)) c.self.view_is, text_long content) in
    sym (ap (λ (d : Document). place d.content c.left_of.result) c.self.view_is) ∙ ap (place content) c.left_of.ensures ∙ left_place content c.args.k within
