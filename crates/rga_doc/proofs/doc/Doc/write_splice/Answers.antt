use Rattle.rga_doc.proofs.Prelude.{rules, ◌≡◌, ◌++◌, ◌≤◌, ◌+◌, length, ap, ◌∙◌, arith, Content, clock_of, text, visible, text_long, MAX_COUNTER, Document, Excerpted, splice_operations, splice_operations_at}
use Rattle.rga_doc.proofs.EditAnswers.{splice_places, splice_counters}
use Rattle.rga_doc.proofs.ExcerptLaws.{splice_by_excerpt, excerpt_long}
use Rattle.rga_doc.proofs.doc.Doc.write_splice.Goals as goal

pub splice-requires-clause-begin : goal.splice-requires-clause-begin
splice-requires-clause-begin g c = omega (arith, ap (λ (e : Excerpted). e.start) c.in_ok-elements.ensures.ok)

pub splice-requires-clause-ordered : goal.splice-requires-clause-ordered
splice-requires-clause-ordered g c = (splice_places c.args.self.now.limit c.args.lo c.args.hi c.args.self.now.content c.args.put.now c.requires.allowed).0

pub splice-requires-clause-counters : goal.splice-requires-clause-counters
splice-requires-clause-counters g c = λ some.
    let most : clock_of c.args.self.now.content + length c.args.put.now ≤ MAX_COUNTER = splice_counters c.args.self.now.limit c.args.lo c.args.hi c.args.self.now.content c.args.put.now c.requires.allowed some in
    omega (arith, most, c.new-draft.ensures.last, c.clock.ensures, ap (λ (d : Document). clock_of d.content) c.self.view_is)

pub splice-requires-clause-in_text : goal.splice-requires-clause-in_text
splice-requires-clause-in_text g c =
    let content : Content = g.S.Taker.content c.self.inside.store in
    let places = splice_places c.args.self.now.limit c.args.lo c.args.hi c.args.self.now.content c.args.put.now c.requires.allowed in
    let within : c.args.hi ≤ length (visible content) = omega (arith, places.1, ap (λ (d : Document). length (text d.content)) c.self.view_is, text_long content) in
    omega (arith, ap (λ (e : Excerpted). length e.items) c.in_ok-elements.ensures.ok, excerpt_long (visible content) c.args.lo c.args.hi places.0 within)

-- what is drafted is the splice's operations
pub returns : goal.returns
returns g c = record {
  operations =
      let content : Content = g.S.Taker.content c.self.inside.store in
      let places = splice_places c.args.self.now.limit c.args.lo c.args.hi c.args.self.now.content c.args.put.now c.requires.allowed in
      let within : c.args.hi ≤ length (visible content) = omega (arith, places.1, ap (λ (d : Document). length (text d.content)) c.self.view_is, text_long content) in
      let made : c.splice.new.self.ops.items ≡ c.new-draft.result.ops.items ++ splice_operations_at c.in_ok-elements.elements.items c.new-draft.result.replica c.new-draft.result.last c.args.lo c.args.hi c.args.put.now = search rules in
      splice_by_excerpt c.self.inside.replica c.args.lo c.args.hi content c.args.put.now c.splice.new.self.ops.items c.new-draft.result.ops.items c.in_ok-elements.elements c.new-draft.result.replica c.new-draft.result.last
      places.0 within c.new-draft.ensures.ops c.new-draft.ensures.replica (c.new-draft.ensures.last ∙ c.clock.ensures) c.in_ok-elements.ensures.ok made
      ∙ ap (λ (d : Document). splice_operations d.replica d.content c.args.lo c.args.hi c.args.put.now) c.self.view_is;
}
