use Rattle.rga_doc.proofs.Prelude.{◌≡◌, ◌-◌, ℕ, List, take, drop, length, sym, ap, ◌∙◌, subst, arith, Ok, Identifier, Content, clock_of, join, content_of, list_answer, text, Op, Document, AllBetween, AgreeOutside, restorations, revert_operations}
use Rattle.rga_doc.proofs.Prelude.{revert_answer}
use Rattle.rga_doc.proofs.RevertLaws.{revert_taken}
use Rattle.rga_doc.proofs.RereadingLaws.{both_say, revert_long, revert_deletions, revert_insertions, revert_agrees}
use Rattle.rga_doc.proofs.doc.Doc.take_revert.Goals as goal

pub overflow_sub-ops : goal.overflow_sub-ops
overflow_sub-ops g c =
    let old : Document = c.args.self.now in
    omega (arith, ap length c.requires.operations, revert_long old.limit old.replica old.content c.args.gone.now c.args.back.now c.requires.allowed)

-- the store takes the operations of a revert that is allowed
pub take_all-requires : goal.take_all-requires
take_all-requires g c =
    ap (λ (d : Document). list_answer d.limit d.content c.args.ops.now) c.self.view_is
    ∙ ap (list_answer c.args.self.now.limit c.args.self.now.content) c.requires.operations
    ∙ revert_taken c.args.self.now.limit c.args.self.now.replica c.args.self.now.content c.args.gone.now c.args.back.now c.requires.allowed

-- the text stays outside the margins
pub follow-front-requires : goal.follow-front-requires
follow-front-requires g c =
    let content : Content = g.S.Taker.content c.self.inside.store in
    let limit : ℕ = g.S.Taker.limit c.self.inside.store in
    let replica : ℕ = c.self.inside.replica in
    let gone : List Identifier = c.args.gone.now in
    let back : List (Identifier × ℕ) = c.args.back.now in
    let cut : ℕ = length c.args.ops.now - length back in
    let allowed : revert_answer limit content back ≡ Ok tt = ap (λ (d : Document). revert_answer d.limit d.content back) c.self.view_is ∙ c.requires.allowed in
    let ops : c.args.ops.now ≡ revert_operations replica content gone back = c.requires.operations ∙ sym (ap (λ (d : Document). revert_operations d.replica d.content gone back) c.self.view_is) in
    let joined : g.S.Taker.content c.take_all.new.store ≡ join content (content_of (revert_operations replica content gone back)) =
    c.in_ok-take_all.ensures.content ∙ ap (λ xs. join content (content_of xs)) ops in
    let deletions = c.split_at.ensures.front ∙ ap (λ (xs : List Op). take (length xs - length back) xs) ops ∙ revert_deletions limit replica content gone back allowed in
    let insertions = c.split_at.ensures.back ∙ ap (λ (xs : List Op). drop (length xs - length back) xs) ops ∙ revert_insertions limit replica content gone back allowed in
    both_say c.margins-margins.result _ _ _ c.margins-margins.ensures.listed c.margins-margins.ensures.between
    (λ m listed between. λ f b less fewer given.
    subst (λ d. AgreeOutside f b c.self.inside.listing.characters.items (text d)) (sym joined)
    (subst (λ xs. AgreeOutside f b xs (text (join content (content_of (revert_operations replica content gone back))))) (sym (c.self.invariant.1 listed))
    (revert_agrees limit replica content gone back allowed m.front m.back f b less fewer
    (subst (AllBetween content m.front m.back) deletions between)
    (subst (λ d. AllBetween d f b (restorations replica (clock_of content) back)) joined (subst (AllBetween (g.S.Taker.content c.take_all.new.store) f b) insertions given)))))
