use Rattle.rga_store.proofs.Prelude.{◌≡◌, ℕ, ◌+◌, ◌<◌, true, false, cond, not, List, [], ◌∷◌, ◌++◌, take, drop, length, get_or, refl, sym, ap, ◌∙◌, Some, None, option_map_or, option_or, lookup, take_more, take-append-drop, get, id_cmp, id_of, element, Content, join, single, content_of, is_element, has_another, first_conflict, early_conflict, on_err_always, is, same_id, is_swap, join_nothing, or_none, is_element-is, first_conflict_found, first_none, no_early_behind_new, held_adds_nothing, from, get-insertion, get-deletion, free_more, Op, Insert}
use Rattle.std.specs.FinMap as finite_map
use Rattle.rga_store.proofs.EarlySteps as early
use Rattle.rga_store.proofs.ElementSteps.{pair_of, found_element, found_none, looked_up, added_element}
use Rattle.rga_store.proofs.answers.list_answer.first_conflict.Goals.{in-Insert+in-Some, in-Insert+in-None+in_ok-_none-in-None, in_default}
use Rattle.rga_store.proofs.answers.list_answer.first_conflict.Goals as goal

-- ---- one operation more

split_at : (ops : List Op) (i : ℕ) (op : Op) → i < length ops → op ≡ get_or ops i op → ops ≡ take i ops ++ op ∷ drop (i + 1) ops
split_at ops i op within at =
    sym (take-append-drop i ops) ∙ ap (λ ys. take i ops ++ ys) (from ops i op within at)

-- the operations so far do not conflict, and neither does the next one
passed_by : (s : Content) (ops : List Op) (i : ℕ) (op : Op) → i < length ops → op ≡ get_or ops i op → first_conflict s (take i ops) ≡ None → has_another (join s (content_of (take i ops))) op ≡ false → first_conflict s (take (i + 1) ops) ≡ None
passed_by s ops i op within at free other =
    ap (first_conflict s) (take_more ops i op within ∙ ap (λ x. take i ops ++ x ∷ []) (sym at)) ∙ free_more s (take i ops) op free other

pub loop-op-init : goal.loop-op-init
loop-op-init g c =
    let s : Content = (g.L.Lookup.holds c.args.held.now) in
    record {
      elements = λ q.
          ap (λ es. option_or (pair_of (finite_map.get s.inserted q)) (lookup (is q) es)) c.new-added.ensures.empty
          ∙ or_none (pair_of (finite_map.get s.inserted q)) ∙ ap (λ (d : Content). pair_of (finite_map.get d.inserted q)) (sym (join_nothing s));
      free = refl;
    }

pub returns-in-Some-2-clause-ok : goal.returns-in-Some-2-clause-ok
returns-in-Some-2-clause-ok g c =
    let s : Content = (g.L.Lookup.holds c.args.held.now) in
    let d : Content = join s (content_of (take c.loop-op.op-index c.args.ops.now)) in
    let there : finite_map.get d.inserted c.in-Insert.id ≡ Some (element c.in-Some.element.0 c.in-Some.element.1) =
    found_element (finite_map.get d.inserted c.in-Insert.id) c.in-Some.element (sym (c.loop-op.invariant.elements c.in-Insert.id) ∙ looked_up (c.copied.ensures ∙ c.get.ensures.value) c.element_of.ensures c.or.ensures ∙ c.in-Some.is) in
    let conflicts : has_another d c.op-item.result ≡ true =
    ap (has_another d) c.in-Insert.is ∙ ap (λ o. option_map_or (λ x. not (is_element x c.in-Insert.parent c.in-Insert.ch)) o false) there ∙ ap not (sym c.eq.ensures ∙ c.if-eq.false) in
    sym (ap (first_conflict s) (split_at c.args.ops.now c.loop-op.op-index c.op-item.result c.loop-op-test.true c.op-item.is)
    ∙ first_conflict_found s (take c.loop-op.op-index c.args.ops.now) (drop (c.loop-op.op-index + 1) c.args.ops.now) c.op-item.result c.loop-op.invariant.free conflicts
    ∙ ap (λ o. Some (id_of o)) c.in-Insert.is)

pub returns-in_err-_none-in-None-clause-early : goal.returns-in_err-_none-in-None-clause-early
returns-in_err-_none-in-None-clause-early g c =
    let s : Content = (g.L.Lookup.holds c.args.held.now) in
    let d : Content = join s (content_of (take c.loop-op.op-index c.args.ops.now)) in
    let absent : finite_map.get d.inserted c.in-Insert.id ≡ None =
    found_none (finite_map.get d.inserted c.in-Insert.id) (sym (c.loop-op.invariant.elements c.in-Insert.id) ∙ looked_up (c.copied.ensures ∙ c.get.ensures.value) c.element_of.ensures c.or.ensures ∙ c.in-None.is) in
    on_err_always c.from_residual.result
    (ap (early_conflict s) (split_at c.args.ops.now c.loop-op.op-index c.op-item.result c.loop-op-test.true c.op-item.is
    ∙ ap (λ op. take c.loop-op.op-index c.args.ops.now ++ op ∷ drop (c.loop-op.op-index + 1) c.args.ops.now) c.in-Insert.is)
    ∙ no_early_behind_new s (take c.loop-op.op-index c.args.ops.now) (drop (c.loop-op.op-index + 1) c.args.ops.now) c.in-Insert.id c.in-Insert.parent c.in-Insert.ch c.loop-op.invariant.free absent)

pub loop-op-preserved : goal.loop-op-preserved
loop-op-preserved g c =
    let s : Content = (g.L.Lookup.holds c.args.held.now) in
    let d : Content = join s (content_of (take c.loop-op.op-index c.args.ops.now)) in
    let next : Content = join s (content_of (take (c.loop-op.op-index + 1) c.args.ops.now)) in
    let joined : next ≡ join d (single c.op-item.result) = early.joined s c.args.ops.now c.loop-op.op-index c.op-item.result c.loop-op-test.true c.op-item.is in
    let goes_on : has_another d c.op-item.result ≡ false → first_conflict s (take (c.loop-op.op-index + 1) c.args.ops.now) ≡ None = λ other.
    passed_by s c.args.ops.now c.loop-op.op-index c.op-item.result c.loop-op-test.true c.op-item.is c.loop-op.invariant.free other in
    elim c.match-op.branch [
      | in-Insert+in-Some w ↦
          let there : finite_map.get d.inserted w.in-Insert.id ≡ Some (element w.in-Some.element.0 w.in-Some.element.1) =
          found_element (finite_map.get d.inserted w.in-Insert.id) w.in-Some.element (sym (c.loop-op.invariant.elements w.in-Insert.id) ∙ looked_up (w.copied.ensures ∙ w.get.ensures.value) w.element_of.ensures w.or.ensures ∙ w.in-Some.is) in
          let same : is_element (element w.in-Some.element.0 w.in-Some.element.1) w.in-Insert.parent w.in-Insert.ch ≡ true = sym w.eq.ensures ∙ w.if-eq.true in
          let stays : next ≡ d =
          joined ∙ ap (λ o. join d (single o)) w.in-Insert.is
          ∙ held_adds_nothing d (Insert w.in-Insert.id w.in-Insert.parent w.in-Insert.ch) (there ∙ ap Some (is_element-is _ w.in-Insert.parent w.in-Insert.ch same)) in
          record {
            elements = λ q.
                ap (λ m. option_or (pair_of (finite_map.get s.inserted q)) (get id_cmp m q)) w.added-is
                ∙ c.loop-op.invariant.elements q ∙ ap (λ (e : Content). pair_of (finite_map.get e.inserted q)) (sym stays);
            free = goes_on (ap (has_another d) w.in-Insert.is ∙ ap (λ o. option_map_or (λ x. not (is_element x w.in-Insert.parent w.in-Insert.ch)) o false) there ∙ ap not same);
          }
      | in-Insert+in-None+in_ok-_none-in-None w ↦
          let neither : option_or (pair_of (finite_map.get s.inserted w.in-Insert.id)) (get id_cmp c.loop-op.added w.in-Insert.id) ≡ None = looked_up (w.copied.ensures ∙ w.get.ensures.value) w.element_of.ensures w.or.ensures ∙ w.in-None.is in
          let absent : finite_map.get d.inserted w.in-Insert.id ≡ None =
          found_none (finite_map.get d.inserted w.in-Insert.id) (sym (c.loop-op.invariant.elements w.in-Insert.id) ∙ neither) in
          record {
            elements = λ q.
                ap (λ m. option_or (pair_of (finite_map.get s.inserted q)) (get id_cmp m q)) w.added-is
                ∙ ap (option_or (pair_of (finite_map.get s.inserted q))) (w.in_ok-_none-in-None.ensures.updates.0 q
                ∙ ap (λ t. cond t (Some (w.in-Insert.parent, w.in-Insert.ch)) (get id_cmp c.loop-op.added q)) (is_swap w.in-Insert.id q))
                ∙ added_element (is q w.in-Insert.id) (pair_of (finite_map.get s.inserted q)) (get id_cmp c.loop-op.added q) (finite_map.get d.inserted q) w.in-Insert.parent w.in-Insert.ch
                (λ t. ap (λ k. pair_of (finite_map.get s.inserted k)) (same_id q w.in-Insert.id t) ∙ first_none _ _ neither)
                (c.loop-op.invariant.elements q)
                ∙ ap pair_of (sym (ap (λ (e : Content). finite_map.get e.inserted q) (joined ∙ ap (λ o. join d (single o)) w.in-Insert.is) ∙ get-insertion d w.in-Insert.id w.in-Insert.parent w.in-Insert.ch q absent));
            free = goes_on (ap (has_another d) w.in-Insert.is ∙ ap (λ o. option_map_or (λ x. not (is_element x w.in-Insert.parent w.in-Insert.ch)) o false) absent);
          }
      | in_default w ↦ record {
        elements = λ q.
            ap (λ m. option_or (pair_of (finite_map.get s.inserted q)) (get id_cmp m q)) w.added-is
            ∙ c.loop-op.invariant.elements q
            ∙ ap pair_of (sym (ap (λ (e : Content). finite_map.get e.inserted q) (joined ∙ ap (λ o. join d (single o)) w.in_default.is) ∙ get-deletion d w.in_default.field-0 q));
        free = goes_on (ap (has_another d) w.in_default.is);
      }
    ]
