use Rattle.rga_store.proofs.Prelude.{◌≡◌, take, join, content_of, new_operations, Reaches}
use Rattle.rga_store.proofs.answers.new_operations.pick_new.Given as goal

-- the store and what was added have what the store and the operations so far have, and those of them that are new were picked
abbrev pub invariant-loop-op : goal.invariant-loop-op
invariant-loop-op g l = record {
  reached : Reaches (g.S.Taker.content l.store) l.inserted l.deleted (join (g.S.Taker.content l.store) (content_of (take l.op-index l.ops)));
  new : l.picked.items ≡ new_operations (g.S.Taker.content l.store) (take l.op-index l.ops);
}
