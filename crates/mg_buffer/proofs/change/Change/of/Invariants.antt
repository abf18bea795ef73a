use Rattle.mg_buffer.proofs.Prelude.{◌≡◌, ◌++◌, drop}
use Rattle.rga_doc.specs.UndoGroup.{inserted_elements, deleted_elements, element_characters}
use Rattle.mg_buffer.proofs.change.Change.of.Given as goal

-- the elements so far, and those of the operations that are left, are all
abbrev pub invariant-loop-op : goal.invariant-loop-op
invariant-loop-op g l = record {
  inserted : l.inserted.items ++ inserted_elements (drop l.op-index l.ops) ≡ inserted_elements l.ops;
  deleted : l.deleted.items ++ element_characters (g.S.Taker.content l.store) (deleted_elements (drop l.op-index l.ops)) ≡ element_characters (g.S.Taker.content l.store) (deleted_elements l.ops);
}
