use Rattle.rga_store.proofs.Prelude.{◌≡◌, not, take, drop, take_while, Identifier, join, content_of, first_conflict, inserts_anew, early_conflict}
use Rattle.std.specs.FinMap as finite_map
use Rattle.rga_store.proofs.answers.early_answer.early_conflict_at.Given as goal

-- the operations so far insert nothing, and what is left in front of all that is inserted anew has the conflict
abbrev pub invariant-loop-op : goal.invariant-loop-op
invariant-loop-op g l = record {
  rest : first_conflict (join (g.S.Taker.content l.store) (content_of (take l.op-index l.ops))) (take_while (λ op. not (inserts_anew (g.S.Taker.content l.store) op)) (drop l.op-index l.ops)) ≡ early_conflict (g.S.Taker.content l.store) l.ops;
  elements : (q : Identifier) → finite_map.get (join (g.S.Taker.content l.store) (content_of (take l.op-index l.ops))).inserted q ≡ finite_map.get (g.S.Taker.content l.store).inserted q;
}
