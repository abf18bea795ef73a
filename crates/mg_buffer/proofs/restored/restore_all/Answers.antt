use Rattle.mg_buffer.proofs.Prelude.{◌≡◌, ◌+◌, List, ◌∷◌, [], ◌++◌, drop, length, refl, ap, ◌∙◌, sym, subst, arith, drop_all, append-nil, append_assoc, Op, Insert, Delete, inserted_elements, AreFirst, IsFirst, Restored, restored_by}
use Rattle.rga_ops.proofs.ListSteps.{from}
use Rattle.rga_doc.proofs.UndoLists.{one_more}
use Rattle.mg_buffer.proofs.restored.restore_all.Goals.{After-op-item}
use Rattle.mg_buffer.proofs.restored.restore_all.Goals as goal

one_first : (op : Op) (ops : List Op) → restored_by (op ∷ ops) ≡ restored_by (op ∷ []) ++ restored_by ops
one_first (Insert id parent ch) ops = refl
one_first (Delete id) ops = refl

module _ (c : After-op-item) where
  abbrev op : Op
  op = c.op-item.result

  abbrev rest : List Op
  rest = drop (c.loop-op.op-index + 1) c.args.ops.now

  abbrev known : Restored
  known = c.loop-op.restored.entries

  split : drop c.loop-op.op-index c.args.ops.now ≡ op ∷ rest
  split = from c.args.ops.now c.loop-op.op-index op c.loop-op-test.true c.op-item.is

  first : IsFirst known op × AreFirst (known ++ restored_by (op ∷ [])) rest
  first = subst (AreFirst known) split c.loop-op.invariant.first

  count : length (inserted_elements (drop c.loop-op.op-index c.args.ops.now)) ≡ length (inserted_elements (op ∷ [])) + length (inserted_elements rest)
  count = ap (λ xs. length (inserted_elements xs)) split ∙ one_more op rest

pub loop-op-preserved : goal.loop-op-preserved
loop-op-preserved c =
    let b = (goal.at.loop-op-preserved c).After-op-item in
    record {
      first = subst (λ xs. AreFirst xs (rest b)) (sym c.restore.ensures.entries) (first b).1;
      all = ap (λ xs. xs ++ restored_by (rest b)) c.restore.ensures.entries ∙ append_assoc (known b) (restored_by (op b ∷ [])) (restored_by (rest b))
          ∙ ap (λ xs. known b ++ xs) (sym (one_first (op b) (rest b))) ∙ ap (λ xs. known b ++ restored_by xs) (sym (split b)) ∙ c.loop-op.invariant.all;
      room = omega (arith, count b, c.loop-op.invariant.room, c.restore.ensures.room);
    }

pub restore-requires-clause-first : goal.restore-requires-clause-first
restore-requires-clause-first c = (first (goal.at.restore-requires-clause-first c).After-op-item).0

pub restore-requires-clause-room : goal.restore-requires-clause-room
restore-requires-clause-room c = let b = (goal.at.restore-requires-clause-room c).After-op-item in omega (arith, count b, c.loop-op.invariant.room)

pub returns : goal.returns
returns c =
    let known = c.loop-op.restored.entries in
    let none : drop c.loop-op.op-index c.args.ops.now ≡ [] = drop_all c.loop-op.op-index c.args.ops.now c.loop-op-test.false in
    sym (append-nil known) ∙ ap (λ xs. known ++ restored_by xs) (sym none) ∙ c.loop-op.invariant.all
