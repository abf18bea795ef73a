use Rattle.rga_store.proofs.Prelude.{◌≡◌, ℕ, true, false, cond, List, [], ◌∷◌, ◌++◌, ◌+◌, ◌<◌, get_or, length, take, take_all, sym, ap, ◌∙◌, subst, not-true, not-false, take_more, append-nil, Content, join, content_of, holds, new_operations, join_nothing, join_more, Op, Reaches}
use Rattle.rga_ops.proofs.NewLaws.{new_in_parts}
use Rattle.rga_store.proofs.answers.new_operations.pick_new.Goals as goal

one_more : (ops : List Op) (i : ℕ) (op : Op) → i < length ops → op ≡ get_or ops i op → take (i + 1) ops ≡ take i ops ++ op ∷ []
one_more ops i op within is = take_more ops i op within ∙ ap (λ x. take i ops ++ x ∷ []) (sym is)

-- what is new of a list and an operation more
held_then : (s : Content) (before : List Op) (op : Op) → holds (join s (content_of before)) op ≡ true → new_operations s (before ++ op ∷ []) ≡ new_operations s before
held_then s before op held =
    new_in_parts s before (op ∷ []) ∙ ap (λ b. new_operations s before ++ cond b [] (op ∷ [])) held ∙ append-nil (new_operations s before)

new_then : (s : Content) (before : List Op) (op : Op) → holds (join s (content_of before)) op ≡ false → new_operations s (before ++ op ∷ []) ≡ new_operations s before ++ op ∷ []
new_then s before op absent = new_in_parts s before (op ∷ []) ∙ ap (λ b. new_operations s before ++ cond b [] (op ∷ [])) absent

pub loop-op-init : goal.loop-op-init
loop-op-init g c = record {
  reached = subst (Reaches (g.S.Taker.content c.args.store.now) c.args.inserted.now c.args.deleted.now) (sym (join_nothing (g.S.Taker.content c.args.store.now))) c.requires.reached;
  new = c.requires.none;
}

pub loop-op-preserved-then-not-branch : goal.loop-op-preserved-then-not-branch
loop-op-preserved-then-not-branch g c =
    let s : Content = g.S.Taker.content c.args.store.now in
    let op : Op = c.op-item.result in
    let before : List Op = take c.loop-op.op-index c.args.ops.now in
    let more : take (c.loop-op.op-index + 1) c.args.ops.now ≡ before ++ op ∷ [] = one_more c.args.ops.now c.loop-op.op-index op c.loop-op-test.true c.op-item.is in
    let held : holds (join s (content_of before)) op ≡ true =
    not-false (holds (join s (content_of before)) op) (sym (c.in_ok-is_new.ensures.new (join s (content_of before)) c.loop-op.invariant.reached) ∙ c.if-not-branch.true) in
    record {
      reached = subst (λ xs. Reaches s c.is_new.new.inserted c.is_new.new.deleted (join s (content_of xs))) (sym more)
          (subst (Reaches s c.is_new.new.inserted c.is_new.new.deleted) (sym (join_more s before op)) (c.in_ok-is_new.ensures.added (join s (content_of before)) c.loop-op.invariant.reached));
      new = c.loop-op.invariant.new ∙ sym (ap (new_operations s) more ∙ held_then s before op held);
    }

pub loop-op-preserved : goal.loop-op-preserved
loop-op-preserved g c =
    let s : Content = g.S.Taker.content c.args.store.now in
    let op : Op = c.op-item.result in
    let before : List Op = take c.loop-op.op-index c.args.ops.now in
    let more : take (c.loop-op.op-index + 1) c.args.ops.now ≡ before ++ op ∷ [] = one_more c.args.ops.now c.loop-op.op-index op c.loop-op-test.true c.op-item.is in
    let absent : holds (join s (content_of before)) op ≡ false =
    not-true (holds (join s (content_of before)) op) (sym (c.in_ok-is_new.ensures.new (join s (content_of before)) c.loop-op.invariant.reached) ∙ c.if-not-branch.false) in
    record {
      reached = subst (λ xs. Reaches s c.is_new.new.inserted c.is_new.new.deleted (join s (content_of xs))) (sym more)
          (subst (Reaches s c.is_new.new.inserted c.is_new.new.deleted) (sym (join_more s before op)) (c.in_ok-is_new.ensures.added (join s (content_of before)) c.loop-op.invariant.reached));
      new = c.in_ok-push.ensures.items ∙ ap (λ xs. xs ++ op ∷ []) c.loop-op.invariant.new ∙ sym (ap (new_operations s) more ∙ new_then s before op absent);
    }

pub returns : goal.returns
returns g c = record {
  ok =
      c.loop-op.invariant.new ∙ ap (new_operations (g.S.Taker.content c.args.store.now)) (take_all c.loop-op.op-index c.args.ops.now c.loop-op-test.false);
}
