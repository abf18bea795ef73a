use Rattle.rga_doc.proofs.Prelude.{◌≡◌, ℕ, ◌+◌, ◌&&◌, true, false, drop, inr, sym, ap, ◌∙◌, not-true, and-true, list_any, contains, Identifier, is_id, Content, is_complete, place_answer, are_restorable, from}
use Rattle.rga_doc.proofs.RevertSets.{left_able, none_at_first, able_on, not_complete}
use Rattle.rga_doc.proofs.revert.check_restorable.Goals as goal

pub loop-element-init : goal.loop-element-init
loop-element-init g c =
    let content : Content = g.S.Taker.content c.args.store.now in
    ap (λ t. are_restorable content c.args.back.now && t) (none_at_first (contains is_id c.new-seen.result) c.args.back.now (λ q. ap (list_any (is_id q)) c.new-seen.ensures.empty))
    ∙ and-true (are_restorable content c.args.back.now)

pub returns-then-not-is_in_order : goal.returns-then-not-is_in_order
returns-then-not-is_in_order g c =
    let content : Content = g.S.Taker.content c.args.store.now in
    let b : Identifier × ℕ = c.loop-element-item.result in
    let absent : is_complete content b.0 ≡ false = sym c.is_in_order.ensures ∙ c.if-not-is_in_order.true in
    inr (ap place_answer (
    sym c.loop-element.invariant ∙ ap (left_able content (contains is_id c.loop-element.seen)) (from c.args.back.now c.loop-element.element-index b c.loop-element-test.true c.loop-element-item.is)
    ∙ not_complete content (contains is_id c.loop-element.seen) b (drop (c.loop-element.element-index + 1) c.args.back.now) absent))

pub loop-element-preserved : goal.loop-element-preserved
loop-element-preserved g c =
    let content : Content = g.S.Taker.content c.args.store.now in
    let b : Identifier × ℕ = c.loop-element-item.result in
    let present : is_complete content b.0 ≡ true = sym c.is_in_order.ensures ∙ c.if-not-is_in_order.false in
    let new : contains is_id c.loop-element.seen b.0 ≡ false = not-true (contains is_id c.loop-element.seen b.0) (sym c.in_ok-put_in.ensures.new ∙ c.if-not-branch.false) in
    able_on content (contains is_id c.loop-element.seen) (contains is_id c.put_in.new.set) b (drop (c.loop-element.element-index + 1) c.args.back.now) present new c.in_ok-put_in.ensures.members
    ∙ sym (ap (left_able content (contains is_id c.loop-element.seen)) (from c.args.back.now c.loop-element.element-index b c.loop-element-test.true c.loop-element-item.is))
    ∙ c.loop-element.invariant
