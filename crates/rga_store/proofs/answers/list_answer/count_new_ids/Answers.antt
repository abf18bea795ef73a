use Rattle.rga_store.proofs.Prelude.{◌≡◌, ℕ, ◌+◌, ◌<◌, Bool, true, false, cond, not, ◌||◌, List, [], ◌∷◌, ◌++◌, take, length, get_or, refl, sym, ap, ◌∙◌, arith, list_any, or-false, take_more, contains, btree_set_len, Identifier, id_cmp, id_of, Content, known_ids, join, content_of, ids_total, ids_exact, is, same_id, is_swap, join_nothing, known_more, Op}
use Rattle.std.specs.FinSet as finite_set
use Rattle.std.specs.FinSet.{FinSet}
use Rattle.rga_store.proofs.answers.list_answer.count_new_ids.Goals.{then-not-knows_of+in_ok-_is_new, else-not-knows_of}
use Rattle.rga_store.proofs.answers.list_answer.count_new_ids.Goals as goal

pub loop-op-init : goal.loop-op-init
loop-op-init g c =
    let same : join (g.L.Lookup.holds c.args.held.now) (content_of []) ≡ (g.L.Lookup.holds c.args.held.now) = join_nothing (g.L.Lookup.holds c.args.held.now) in
    record {
      counted = omega (arith, ap (λ d. finite_set.len (known_ids d)) same, c.new-added.ensures.len);
      members = λ q.
          ap (λ ks. finite_set.contains (known_ids (g.L.Lookup.holds c.args.held.now)) q || list_any (is q) ks) c.new-added.ensures.empty
          ∙ or-false (finite_set.contains (known_ids (g.L.Lookup.holds c.args.held.now)) q) ∙ ap (λ d. finite_set.contains (known_ids d) q) (sym same);
    }

-- ---- one operation more

-- the known identifiers, with that of the operation
more_known : (s : Content) (ops : List Op) (i : ℕ) (op : Op) → i < length ops → op ≡ get_or ops i op → known_ids (join s (content_of (take (i + 1) ops))) ≡ finite_set.insert (known_ids (join s (content_of (take i ops)))) (id_of op)
more_known s ops i op within at =
    ap (λ xs. known_ids (join s (content_of xs))) (take_more ops i op within ∙ ap (λ x. take i ops ++ x ∷ []) (sym at)) ∙ known_more s (take i ops) op

-- an identifier that is there adds nothing
there_already : (s : FinSet id_cmp) (id : Identifier) → finite_set.contains s id ≡ true → finite_set.insert s id ≡ s
there_already s id there = finite_set.same_set ids_total ids_exact _ _ (λ q.
    finite_set.contains-insert ids_total s id q ∙ by (is q id) (finite_set.contains s q) (λ t. ap (finite_set.contains s) (same_id q id t) ∙ there))
  where
    by : (t b : Bool) → (t ≡ true → b ≡ true) → (t || b) ≡ b
    by true b h = sym (h refl)
    by false b h = refl

-- one more, unless it was there
count_now : (x b : Bool) (s before now d n : ℕ) → x ≡ not b → now ≡ before + cond x 1 0 → s + before ≡ d → n ≡ cond b d (d + 1) → s + now ≡ n
count_now x true s before now d n new grown counted more = omega (arith, grown ∙ ap (λ y. before + cond y 1 0) new)
count_now x false s before now d n new grown counted more = omega (arith, grown ∙ ap (λ y. before + cond y 1 0) new)

put_first : (t a b : Bool) → (a || cond t true b) ≡ (t || (a || b))
put_first true true b = refl
put_first true false b = refl
put_first false a b = refl

pub loop-op-preserved : goal.loop-op-preserved
loop-op-preserved g c =
    let s : Content = (g.L.Lookup.holds c.args.held.now) in
    let id : Identifier = c.id-id.result in
    let before : FinSet id_cmp = known_ids (join s (content_of (take c.loop-op.op-index c.args.ops.now))) in
    let after : FinSet id_cmp = known_ids (join s (content_of (take (c.loop-op.op-index + 1) c.args.ops.now))) in
    let more : after ≡ finite_set.insert before id =
    more_known s c.args.ops.now c.loop-op.op-index c.op-item.result c.loop-op-test.true c.op-item.is ∙ ap (finite_set.insert before) (sym c.id-id.ensures) in
    elim c.if-not-knows_of.branch [
      | then-not-knows_of+in_ok-_is_new w ↦
          record {
            counted = ap (λ m. finite_set.len (known_ids s) + btree_set_len m) w.added-is
                ∙ count_now w.in_ok-_is_new._is_new (contains id_cmp c.loop-op.added id) (finite_set.len (known_ids s)) (btree_set_len c.loop-op.added) (btree_set_len w.insert.new.self) (finite_set.len before) (finite_set.len after)
                w.in_ok-_is_new.ensures.added w.in_ok-_is_new.ensures.len c.loop-op.invariant.counted
                (ap finite_set.len more ∙ finite_set.len-insert ids_total before id
                ∙ ap (λ b. cond b (finite_set.len before) (finite_set.len before + 1)) (sym (c.loop-op.invariant.members id) ∙ ap (λ b. b || contains id_cmp c.loop-op.added id) (sym c.knows_of.ensures ∙ w.if-not-knows_of.true)));
            members = λ q.
                ap (λ m. finite_set.contains (known_ids s) q || contains id_cmp m q) w.added-is
                ∙ ap (λ b. finite_set.contains (known_ids s) q || b) (w.in_ok-_is_new.ensures.updates.0 q
                ∙ ap (λ t. cond t true (contains id_cmp c.loop-op.added q)) (is_swap id q))
                ∙ put_first (is q id) (finite_set.contains (known_ids s) q) (contains id_cmp c.loop-op.added q)
                ∙ ap (λ b. is q id || b) (c.loop-op.invariant.members q)
                ∙ sym (ap (λ t. finite_set.contains t q) more ∙ finite_set.contains-insert ids_total before id q);
          }
      | else-not-knows_of w ↦
          let there : finite_set.contains before id ≡ true =
          sym (c.loop-op.invariant.members id) ∙ ap (λ b. b || contains id_cmp c.loop-op.added id) (sym c.knows_of.ensures ∙ w.if-not-knows_of.false) in
          let same : after ≡ before = more ∙ there_already before id there in
          record {
            counted = ap (λ m. finite_set.len (known_ids s) + btree_set_len m) w.added-is ∙ c.loop-op.invariant.counted ∙ ap finite_set.len (sym same);
            members = λ q.
                ap (λ m. finite_set.contains (known_ids s) q || contains id_cmp m q) w.added-is
                ∙ c.loop-op.invariant.members q ∙ ap (λ t. finite_set.contains t q) (sym same);
          }
    ]
