use Rattle.rga_doc.proofs.Prelude.{◌≡◌, ◌≤◌, ℕ, ◌+◌, List, drop, length, ap, ◌∙◌, arith, Splice, new_characters, MAX_COUNTER, begin_of}
use Rattle.rga_doc.proofs.ExcerptLaws.{begins_first, begins_at}
use Rattle.rga_doc.proofs.EditAnswers.{falls_within}
use Rattle.rga_doc.proofs.FallingLaws.{fewer, characters_left}
use Rattle.rga_doc.proofs.draft.Draft.splices.Goals as goal

pub splice-requires-clause-begin : goal.splice-requires-clause-begin
splice-requires-clause-begin c =
    let splices : List Splice = c.args.splices.now in
    let s : Splice = c.splice-item.result in
    let first : begin_of splices ≤ s.lo = begins_at (λ x. begin_of splices ≤ x.lo) splices c.loop-splice.splice-index s (begins_first splices (length c.args.elements.now.items) c.requires.falling) c.loop-splice-test.true c.splice-item.is in
    let begin : c.splice.inside.lo ≡ s.lo = ap (λ (x : Splice). x.lo) c.splice.view_is in
    omega (arith, first, begin, c.requires.begin)

pub splice-requires-clause-ordered : goal.splice-requires-clause-ordered
splice-requires-clause-ordered c =
    let ordered : c.splice-item.result.lo ≤ c.splice-item.result.hi = (falls_within c.args.splices.now (length c.args.elements.now.items) c.loop-splice.splice-index c.splice-item.result c.requires.falling c.loop-splice-test.true c.splice-item.is).0 in
    let begin : c.splice.inside.lo ≡ c.splice-item.result.lo = ap (λ (s : Splice). s.lo) c.splice.view_is in
    let end : c.splice.inside.hi ≡ c.splice-item.result.hi = ap (λ (s : Splice). s.hi) c.splice.view_is in
    omega (arith, ordered, begin, end)

pub splice-requires-clause-in_text : goal.splice-requires-clause-in_text
splice-requires-clause-in_text c =
    let within : c.splice-item.result.hi ≤ length c.args.elements.now.items = (falls_within c.args.splices.now (length c.args.elements.now.items) c.loop-splice.splice-index c.splice-item.result c.requires.falling c.loop-splice-test.true c.splice-item.is).1 in
    let end : c.splice.inside.hi ≡ c.splice-item.result.hi = ap (λ (s : Splice). s.hi) c.splice.view_is in
    omega (arith, within, end)

pub splice-requires-clause-counters : goal.splice-requires-clause-counters
splice-requires-clause-counters c = λ some.
    let splices : List Splice = c.args.splices.now in
    let i : ℕ = c.loop-splice.splice-index in
    let s : Splice = c.splice-item.result in
    let put : length c.deref.result.now ≡ length s.put = ap length c.deref.ensures.value ∙ ap (λ (x : Splice). length x.put) c.splice.view_is in
    let step : new_characters (drop i splices) ≡ length s.put + new_characters (drop (i + 1) splices) = characters_left splices i s c.loop-splice-test.true c.splice-item.is in
    let few : new_characters (drop i splices) ≤ new_characters splices = fewer splices i in
    let most : c.args.self.last + new_characters splices ≤ MAX_COUNTER = c.requires.counters (omega (arith, some, put, step, few)) in
    omega (arith, c.loop-splice.invariant.counters, most, step, put)
