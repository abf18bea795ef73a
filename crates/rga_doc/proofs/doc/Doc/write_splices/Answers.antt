use Rattle.rga_doc.proofs.Prelude.{◌≡◌, ◌≤◌, ℕ, ◌+◌, List, length, ap, ◌∙◌, arith, Ok, IfOk-weaker, Content, clock_of, text, visible, Splice, are_falling, new_characters, MAX_COUNTER, Document, Excerpted, excerpt, splices_answer, splices_operations}
use Rattle.rga_doc.proofs.EditLaws.{allowed_counters}
use Rattle.rga_doc.proofs.EditAnswers.{counters_suffice}
use Rattle.rga_doc.proofs.ExcerptLaws.{splices_by_excerpt, falls_in_excerpt}
use Rattle.rga_doc.proofs.doc.Doc.write_splices.Goals as goal

pub splices-requires-clause-begin : goal.splices-requires-clause-begin
splices-requires-clause-begin g c =
    omega (arith, ap (λ (e : Excerpted). e.start) c.in_ok-elements.ensures.ok, c.begin_of-lo.ensures)

pub splices-requires-clause-falling : goal.splices-requires-clause-falling
splices-requires-clause-falling g c =
    let content : Content = g.S.Taker.content c.self.inside.store in
    let splices : List Splice = c.args.splices.now in
    let allowed_here : splices_answer (g.S.Taker.limit c.self.inside.store) content splices ≡ Ok tt = ap (λ (d : Document). splices_answer d.limit d.content splices) c.self.view_is ∙ c.requires.allowed in
    falls_in_excerpt (g.S.Taker.limit c.self.inside.store) content splices c.in_ok-elements.elements allowed_here
    (c.in_ok-elements.ensures.ok ∙ (λ k. excerpt (visible content) (c.begin_of-lo.ensures k) (c.end_of-hi.ensures k)))

pub splices-requires-clause-counters : goal.splices-requires-clause-counters
splices-requires-clause-counters g c = λ some.
    let content : Content = g.S.Taker.content c.self.inside.store in
    let limit : ℕ = g.S.Taker.limit c.self.inside.store in
    let splices : List Splice = c.args.splices.now in
    let allowed_here : splices_answer limit content splices ≡ Ok tt = ap (λ (d : Document). splices_answer d.limit d.content splices) c.self.view_is ∙ c.requires.allowed in
    let most : clock_of content + new_characters splices ≤ MAX_COUNTER =
    counters_suffice content (new_characters splices) (allowed_counters limit content (are_falling (length (text content)) splices) (new_characters splices) allowed_here) some in
    omega (arith, most, c.new-draft.ensures.last, c.clock.ensures)

pub returns : goal.returns
returns g c = record {
  operations =
      let content : Content = g.S.Taker.content c.self.inside.store in
      let limit : ℕ = g.S.Taker.limit c.self.inside.store in
      let splices : List Splice = c.args.splices.now in
      let allowed_here : splices_answer limit content splices ≡ Ok tt = ap (λ (d : Document). splices_answer d.limit d.content splices) c.self.view_is ∙ c.requires.allowed in
      IfOk-weaker c.splices.result _ _ (λ ops drafted.
      splices_by_excerpt limit c.self.inside.replica content splices ops.items c.new-draft.result.ops.items c.in_ok-elements.elements c.new-draft.result.replica c.new-draft.result.last
      allowed_here c.new-draft.ensures.ops c.new-draft.ensures.replica (c.new-draft.ensures.last ∙ c.clock.ensures)
      (c.in_ok-elements.ensures.ok ∙ (λ k. excerpt (visible content) (c.begin_of-lo.ensures k) (c.end_of-hi.ensures k))) drafted
      ∙ ap (λ (d : Document). splices_operations d.replica d.content splices) c.self.view_is) c.splices.ensures.ops;
}
