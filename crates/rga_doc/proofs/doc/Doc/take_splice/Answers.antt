use Rattle.rga_doc.proofs.Prelude.{◌≡◌, ◌≤◌, length, sym, ap, ◌∙◌, arith, Ok, Content, join, content_of, list_answer, order, text, spliced, Document, splice_answer, splice_operations}
use Rattle.rga_doc.proofs.EditLaws.{splice_taken, splice_text, splice_order}
use Rattle.rga_doc.proofs.EditAnswers.{splice_places}
use Rattle.rga_doc.proofs.doc.Doc.take_splice.Goals as goal

-- the store takes the operations of a splice that is allowed
pub take_all-requires : goal.take_all-requires
take_all-requires g c =
    ap (λ (d : Document). list_answer d.limit d.content c.deref.result.now) c.self.view_is
    ∙ ap (list_answer c.args.self.now.limit c.args.self.now.content) (c.deref.ensures.value ∙ c.requires.operations)
    ∙ splice_taken c.args.self.now.limit c.args.self.now.replica c.args.lo c.args.hi c.args.self.now.content c.args.put.now c.requires.allowed

pub splice-requires-clause-ordered : goal.splice-requires-clause-ordered
splice-requires-clause-ordered g c = (splice_places c.args.self.now.limit c.args.lo c.args.hi c.args.self.now.content c.args.put.now c.requires.allowed).0

pub splice-requires-clause-in_text : goal.splice-requires-clause-in_text
splice-requires-clause-in_text g c = λ kept.
    let content : Content = g.S.Taker.content c.self.inside.store in
    let all : c.self.inside.listing.characters.items ≡ text content = c.self.invariant.1 (ap (λ (d : Document). d.listed) c.self.view_is ∙ c.requires.listed) in
    let within : c.args.hi ≤ length (text c.args.self.now.content) = (splice_places c.args.self.now.limit c.args.lo c.args.hi c.args.self.now.content c.args.put.now c.requires.allowed).1 in
    omega (arith, within, ap (λ (d : Document). length (text d.content)) c.self.view_is, ap length (c.make_room.ensures.characters kept ∙ all))

-- the characters are spliced with the text
pub invariant_of-self-2 : goal.invariant_of-self-2
invariant_of-self-2 g c =
    let content : Content = g.S.Taker.content c.self.inside.store in
    let all : c.self.inside.listing.characters.items ≡ text content = c.self.invariant.1 (ap (λ (d : Document). d.listed) c.self.view_is ∙ c.requires.listed) in
    let allowed : splice_answer (g.S.Taker.limit c.self.inside.store) content c.args.lo c.args.hi c.args.put.now ≡ Ok tt = ap (λ (d : Document). splice_answer d.limit d.content c.args.lo c.args.hi c.args.put.now) c.self.view_is ∙ c.requires.allowed in
    let ops : c.deref.result.now ≡ splice_operations c.self.inside.replica content c.args.lo c.args.hi c.args.put.now = c.deref.ensures.value ∙ c.requires.operations ∙ sym (ap (λ (d : Document). splice_operations d.replica d.content c.args.lo c.args.hi c.args.put.now) c.self.view_is) in (
      c.self.invariant.0,
      λ listed. c.splice.ensures.characters listed
          ∙ ap (λ xs. spliced xs c.args.lo c.args.hi c.args.put.now) (c.make_room.ensures.characters (sym c.splice.ensures.listed ∙ listed) ∙ all)
          ∙ sym (splice_text (g.S.Taker.limit c.self.inside.store) c.self.inside.replica c.args.lo c.args.hi content c.args.put.now allowed)
          ∙ ap (λ done. text (join content (content_of done))) (sym ops) ∙ ap text (sym c.in_ok-take_all.ensures.content),
    )

pub returns-clause-text : goal.returns-clause-text
returns-clause-text g c =
    let now : Content = c.args.self.now.content in
    ap text (c.in_ok-take_all.ensures.content ∙ ap (λ (d : Document). join d.content (content_of c.deref.result.now)) c.self.view_is)
    ∙ ap (λ done. text (join now (content_of done))) (c.deref.ensures.value ∙ c.requires.operations)
    ∙ splice_text c.args.self.now.limit c.args.self.now.replica c.args.lo c.args.hi now c.args.put.now c.requires.allowed

pub returns-clause-place : goal.returns-clause-place
returns-clause-place g c =
    let now : Content = c.args.self.now.content in
    ap order (c.in_ok-take_all.ensures.content ∙ ap (λ (d : Document). join d.content (content_of c.deref.result.now)) c.self.view_is)
    ∙ ap (λ done. order (join now (content_of done))) (c.deref.ensures.value ∙ c.requires.operations)
    ∙ splice_order c.args.self.now.limit c.args.self.now.replica c.args.lo c.args.hi now c.args.put.now c.requires.allowed
