use Rattle.rga_doc.proofs.Prelude.{◌≡◌, ◌++◌, ◌+◌, drop, new_characters, draft_operations}
use Rattle.rga_doc.proofs.draft.Draft.splices.Given as goal

-- the operations that are left complete those that were wanted
abbrev pub invariant-loop-splice : goal.invariant-loop-splice
invariant-loop-splice l = record {
  ops : l.draft.ops.items ++ draft_operations l.draft.replica l.elements.items l.draft.last (drop l.splice-index l.splices) ≡ l.fn.self.ops.items ++ draft_operations l.fn.self.replica l.elements.items l.fn.self.last l.splices;
  counters : l.draft.last + new_characters (drop l.splice-index l.splices) ≡ l.fn.self.last + new_characters l.splices;
  replica : l.draft.replica ≡ l.fn.self.replica;
}
