use Rattle.rga_store.proofs.Prelude.{◌≡◌, ◌+◌, true, false, not, is_some, take, sym, ap, ◌∙◌, Some, option_map_or, take_while, not-false, id_of, Element, element, Content, join, single, content_of, is_element, has_another, first_conflict, inserts_anew, is_element-is, join_nothing, get-deletion, held_adds_nothing, Insert}
use Rattle.std.specs.FinMap as finite_map
use Rattle.rga_store.proofs.ElementSteps.{found_element}
use Rattle.rga_store.proofs.EarlySteps.{joined, conflicting, passed}
use Rattle.rga_store.proofs.answers.early_answer.early_conflict_at.Goals as goal

pub loop-op-init : goal.loop-op-init
loop-op-init g c =
    let s : Content = g.S.Taker.content c.args.store.now in
    record {
      rest = ap (λ d. first_conflict d (take_while (λ op. not (inserts_anew s op)) c.args.ops.now)) (join_nothing s);
      elements = λ q. ap (λ (d : Content). finite_map.get d.inserted q) (join_nothing s);
    }

pub returns-then-ne : goal.returns-then-ne
returns-then-ne g c =
    let s : Content = g.S.Taker.content c.args.store.now in
    let d : Content = join s (content_of (take c.loop-op.op-index c.args.ops.now)) in
    let there : finite_map.get s.inserted c.in-Insert.id ≡ Some (element c.in-Some.element.0 c.in-Some.element.1) =
    found_element (finite_map.get s.inserted c.in-Insert.id) c.in-Some.element (sym c.get.ensures ∙ c.in-Some.is) in
    let old : inserts_anew s c.op-item.result ≡ false = ap (inserts_anew s) c.in-Insert.is ∙ ap (λ o. not (is_some o)) there in
    let other : has_another d c.op-item.result ≡ true =
    ap (has_another d) c.in-Insert.is
    ∙ ap (λ o. option_map_or (λ x. not (is_element x c.in-Insert.parent c.in-Insert.ch)) o false) (c.loop-op.invariant.elements c.in-Insert.id ∙ there)
    ∙ sym c.ne.ensures ∙ c.if-ne.true in
    sym (sym c.loop-op.invariant.rest
    ∙ conflicting s c.args.ops.now c.loop-op.op-index c.op-item.result c.loop-op-test.true c.op-item.is d old other
    ∙ ap (λ o. Some (id_of o)) c.in-Insert.is)

pub loop-op-preserved : goal.loop-op-preserved
loop-op-preserved g c =
    let s : Content = g.S.Taker.content c.args.store.now in
    let d : Content = join s (content_of (take c.loop-op.op-index c.args.ops.now)) in
    let x : Element = element c.in-Some.element.0 c.in-Some.element.1 in
    let there : finite_map.get s.inserted c.in-Insert.id ≡ Some x = found_element (finite_map.get s.inserted c.in-Insert.id) c.in-Some.element (sym c.get.ensures ∙ c.in-Some.is) in
    let there_too : finite_map.get d.inserted c.in-Insert.id ≡ Some x = c.loop-op.invariant.elements c.in-Insert.id ∙ there in
    let differs : not (is_element x c.in-Insert.parent c.in-Insert.ch) ≡ false = sym c.ne.ensures ∙ c.if-ne.false in
    let stays : join s (content_of (take (c.loop-op.op-index + 1) c.args.ops.now)) ≡ d =
    joined s c.args.ops.now c.loop-op.op-index c.op-item.result c.loop-op-test.true c.op-item.is ∙ ap (λ o. join d (single o)) c.in-Insert.is
    ∙ held_adds_nothing d (Insert c.in-Insert.id c.in-Insert.parent c.in-Insert.ch) (there_too ∙ ap Some (is_element-is x c.in-Insert.parent c.in-Insert.ch (not-false _ differs))) in
    record {
      rest = sym (passed s c.args.ops.now c.loop-op.op-index c.op-item.result c.loop-op-test.true c.op-item.is
          (ap (inserts_anew s) c.in-Insert.is ∙ ap (λ o. not (is_some o)) there)
          (ap (has_another d) c.in-Insert.is ∙ ap (λ o. option_map_or (λ y. not (is_element y c.in-Insert.parent c.in-Insert.ch)) o false) there_too ∙ differs))
          ∙ c.loop-op.invariant.rest;
      elements = λ q. ap (λ (e : Content). finite_map.get e.inserted q) stays ∙ c.loop-op.invariant.elements q;
    }

pub loop-op-preserved-in_default : goal.loop-op-preserved-in_default
loop-op-preserved-in_default g c =
    let s : Content = g.S.Taker.content c.args.store.now in
    let d : Content = join s (content_of (take c.loop-op.op-index c.args.ops.now)) in
    record {
      rest = sym (passed s c.args.ops.now c.loop-op.op-index c.op-item.result c.loop-op-test.true c.op-item.is
          (ap (inserts_anew s) c.in_default.is) (ap (has_another d) c.in_default.is))
          ∙ c.loop-op.invariant.rest;
      elements = λ q. ap (λ (e : Content). finite_map.get e.inserted q) (joined s c.args.ops.now c.loop-op.op-index c.op-item.result c.loop-op-test.true c.op-item.is ∙ ap (λ o. join d (single o)) c.in_default.is)
          ∙ get-deletion d c.in_default.field-0 q ∙ c.loop-op.invariant.elements q;
    }
