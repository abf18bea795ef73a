use Rattle.rga_doc.proofs.Prelude.{◌≡◌, ◌+◌, ◌&&◌, Bool, true, false, not, List, [], ◌∷◌, ◌++◌, filter, drop, sym, ap, ◌∙◌, append_assoc, append-nil, not-true, not-false, drop_all, and-false, list_any, contains, Identifier, is_id, Content}
use Rattle.rga_doc.proofs.Prelude.{is_complete, is_visible, distinct_elements, from}
use Rattle.rga_doc.proofs.RevertSets.{new_only, all_new, not_kept, kept_met, kept_new}
use Rattle.std.specs.FinSet as finite_set
use Rattle.rga_doc.proofs.revert.collect_visible.Goals as goal

pub loop-id-init : goal.loop-id-init
loop-id-init g c =
    let all : List Identifier = distinct_elements (filter (is_visible (g.S.Taker.content c.args.store.now)) c.args.ids.now) in
    ap (λ xs. xs ++ new_only (contains is_id c.new-seen.result) all) c.new-kept.ensures.items ∙ all_new (contains is_id c.new-seen.result) all (λ q. ap (list_any (is_id q)) c.new-seen.ensures.empty)

pub loop-id-preserved-then-not-is_in_order : goal.loop-id-preserved-then-not-is_in_order
loop-id-preserved-then-not-is_in_order g c =
    let content : Content = g.S.Taker.content c.args.store.now in
    let x : Identifier = c.id-item.result in
    let seen : Identifier → Bool = contains is_id c.loop-id.seen in
    let absent : is_complete content x ≡ false = sym c.is_in_order.ensures ∙ c.if-not-is_in_order.true in
    let hidden : is_visible content x ≡ false = ap (λ t. t && not (finite_set.contains content.deleted x)) absent in
    ap (λ xs. c.loop-id.kept.items ++ xs) (sym (
    ap (λ xs. new_only seen (distinct_elements (filter (is_visible content) xs))) (from c.args.ids.now c.loop-id.id-index x c.loop-id-test.true c.id-item.is)
    ∙ not_kept (is_visible content) seen x (drop (c.loop-id.id-index + 1) c.args.ids.now) hidden))
    ∙ c.loop-id.invariant

pub loop-id-preserved-then-is_deleted : goal.loop-id-preserved-then-is_deleted
loop-id-preserved-then-is_deleted g c =
    let content : Content = g.S.Taker.content c.args.store.now in
    let x : Identifier = c.id-item.result in
    let seen : Identifier → Bool = contains is_id c.loop-id.seen in
    let deleted : finite_set.contains content.deleted x ≡ true = sym c.is_deleted.ensures ∙ c.if-is_deleted.true in
    let hidden : is_visible content x ≡ false = ap (λ t. is_complete content x && not t) deleted ∙ and-false (is_complete content x) in
    ap (λ xs. c.loop-id.kept.items ++ xs) (sym (
    ap (λ xs. new_only seen (distinct_elements (filter (is_visible content) xs))) (from c.args.ids.now c.loop-id.id-index x c.loop-id-test.true c.id-item.is)
    ∙ not_kept (is_visible content) seen x (drop (c.loop-id.id-index + 1) c.args.ids.now) hidden))
    ∙ c.loop-id.invariant

pub loop-id-preserved-then-not-branch : goal.loop-id-preserved-then-not-branch
loop-id-preserved-then-not-branch g c =
    let content : Content = g.S.Taker.content c.args.store.now in
    let x : Identifier = c.id-item.result in
    let seen : Identifier → Bool = contains is_id c.loop-id.seen in
    let complete : is_complete content x ≡ true = sym c.is_in_order.ensures ∙ c.if-not-is_in_order.false in
    let stays : finite_set.contains content.deleted x ≡ false = sym c.is_deleted.ensures ∙ c.if-is_deleted.false in
    let met : seen x ≡ true = not-false (seen x) (sym c.in_ok-put_in.ensures.new ∙ c.if-not-branch.true) in
    ap (λ xs. c.loop-id.kept.items ++ xs) (sym (
    ap (λ xs. new_only seen (distinct_elements (filter (is_visible content) xs))) (from c.args.ids.now c.loop-id.id-index x c.loop-id-test.true c.id-item.is)
    ∙ kept_met (is_visible content) seen x (drop (c.loop-id.id-index + 1) c.args.ids.now) (contains is_id c.put_in.new.set) (λ k. complete k && not (stays k)) met c.in_ok-put_in.ensures.members))
    ∙ c.loop-id.invariant

pub loop-id-preserved : goal.loop-id-preserved
loop-id-preserved g c =
    let content : Content = g.S.Taker.content c.args.store.now in
    let x : Identifier = c.id-item.result in
    let rest : List Identifier = drop (c.loop-id.id-index + 1) c.args.ids.now in
    let seen : Identifier → Bool = contains is_id c.loop-id.seen in
    let now : Identifier → Bool = contains is_id c.put_in.new.set in
    let complete : is_complete content x ≡ true = sym c.is_in_order.ensures ∙ c.if-not-is_in_order.false in
    let stays : finite_set.contains content.deleted x ≡ false = sym c.is_deleted.ensures ∙ c.if-is_deleted.false in
    let new : seen x ≡ false = not-true (seen x) (sym c.in_ok-put_in.ensures.new ∙ c.if-not-branch.false) in
    let left : List Identifier = new_only now (distinct_elements (filter (is_visible content) rest)) in
    ap (λ xs. xs ++ left) c.in_ok-push.ensures.items ∙ append_assoc c.loop-id.kept.items (x ∷ []) left
    ∙ ap (λ xs. c.loop-id.kept.items ++ xs) (sym (
    ap (λ xs. new_only seen (distinct_elements (filter (is_visible content) xs))) (from c.args.ids.now c.loop-id.id-index x c.loop-id-test.true c.id-item.is)
    ∙ kept_new (is_visible content) seen x rest now (λ k. complete k && not (stays k)) new c.in_ok-put_in.ensures.members))
    ∙ c.loop-id.invariant

pub returns : goal.returns
returns g c = record {
  ok =
      let content : Content = g.S.Taker.content c.args.store.now in
      sym (append-nil c.loop-id.kept.items)
      ∙ ap (λ xs. c.loop-id.kept.items ++ new_only (contains is_id c.loop-id.seen) (distinct_elements (filter (is_visible content) xs))) (sym (drop_all c.loop-id.id-index c.args.ids.now c.loop-id-test.false))
      ∙ c.loop-id.invariant;
}
