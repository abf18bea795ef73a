use Rattle.rga_doc.proofs.Prelude.{◌≡◌, sym, ap, ◌∙◌, join, content_of, list_answer, text, text_after, Document}
use Rattle.rga_doc.proofs.EditLaws.{splices_taken, splices_taken_text}
use Rattle.rga_doc.proofs.doc.Doc.take.Goals as goal

-- the store takes the operations of splices that are allowed
pub take_all-requires : goal.take_all-requires
take_all-requires g c =
    ap (λ (d : Document). list_answer d.limit d.content c.args.ops.now) c.self.view_is
    ∙ ap (list_answer c.args.self.now.limit c.args.self.now.content) c.requires.operations
    ∙ splices_taken c.args.self.now.limit c.args.self.now.replica c.args.self.now.content c.args.splices.now c.requires.allowed

pub take_all-requires-2 : goal.take_all-requires-2
take_all-requires-2 g c =
    ap (λ (d : Document). list_answer d.limit d.content c.args.ops.now) c.self.view_is
    ∙ ap (list_answer c.args.self.now.limit c.args.self.now.content) c.requires.operations
    ∙ splices_taken c.args.self.now.limit c.args.self.now.replica c.args.self.now.content c.args.splices.now c.requires.allowed

pub returns-then-splices-gt-MOST_IN_PLACE-clause-text : goal.returns-then-splices-gt-MOST_IN_PLACE-clause-text
returns-then-splices-gt-MOST_IN_PLACE-clause-text g c =
    let old : Document = c.args.self.now in
    splices_taken_text old.limit old.replica old.content (g.S.Taker.content c.take_all.new.store) c.args.splices.now c.args.ops.now c.requires.allowed c.requires.operations
    (c.in_ok-take_all.ensures.content ∙ ap (λ (d : Document). join d.content (content_of c.args.ops.now)) c.self.view_is)

pub returns-clause-text : goal.returns-clause-text
returns-clause-text g c =
    let old : Document = c.args.self.now in
    splices_taken_text old.limit old.replica old.content (g.S.Taker.content c.take_all-2.new.store) c.args.splices.now c.args.ops.now c.requires.allowed c.requires.operations
    (c.in_ok-take_all-2.ensures.content ∙ ap (λ (d : Document). join d.content (content_of c.args.ops.now)) c.self.view_is)

-- the characters are spliced with the text
pub invariant_of-self-then-splices-gt-MOST_IN_PLACE : goal.invariant_of-self-then-splices-gt-MOST_IN_PLACE
invariant_of-self-then-splices-gt-MOST_IN_PLACE g c =
    let all : c.self.inside.listing.characters.items ≡ text c.args.self.now.content = c.self.invariant.1 (ap (λ (d : Document). d.listed) c.self.view_is ∙ c.requires.listed) ∙ ap (λ (d : Document). text d.content) c.self.view_is in
    (c.self.invariant.0, λ listed. c.in_ok-characters.ensures.ok ∙ ap (λ xs. text_after xs c.args.splices.now) all ∙ sym (returns-then-splices-gt-MOST_IN_PLACE-clause-text g c))

pub invariant_of-self-2 : goal.invariant_of-self-2
invariant_of-self-2 g c =
    let all : c.self.inside.listing.characters.items ≡ text c.args.self.now.content = c.self.invariant.1 (ap (λ (d : Document). d.listed) c.self.view_is ∙ c.requires.listed) ∙ ap (λ (d : Document). text d.content) c.self.view_is in
    (c.self.invariant.0, λ listed. c.replace_all.ensures.characters ∙ ap (λ xs. text_after xs c.args.splices.now) (c.make_room.ensures.items ∙ all) ∙ sym (returns-clause-text g c))
