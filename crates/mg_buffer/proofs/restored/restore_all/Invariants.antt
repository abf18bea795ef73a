use Rattle.mg_buffer.proofs.Prelude.{◌≡◌, ◌≤◌, ◌++◌, drop, length, inserted_elements, AreFirst, restored_by}
use Rattle.indexmap.specs.IndexMap.{spare}
use Rattle.mg_buffer.proofs.restored.restore_all.Given as goal

-- what the operations that are left restore is all that is still wanted
abbrev pub invariant-loop-op : goal.invariant-loop-op
invariant-loop-op l = record {
  first : AreFirst l.restored.entries (drop l.op-index l.ops);
  all : l.restored.entries ++ restored_by (drop l.op-index l.ops) ≡ l.fn.restored.entries ++ restored_by l.ops;
  room : length (inserted_elements (drop l.op-index l.ops)) ≤ spare l.restored;
}
