use Rattle.rga_store.proofs.Prelude.{◌≡◌, ◌+◌, ◌||◌, take, contains, btree_set_len, Identifier, id_cmp, known_ids, join, content_of}
use Rattle.std.specs.FinSet as finite_set
use Rattle.rga_store.proofs.answers.list_answer.count_new_ids.Given as goal

-- of the operations so far, the records and the set know the identifiers, each of them once
abbrev pub invariant-loop-op : goal.invariant-loop-op
invariant-loop-op g l = record {
  counted : finite_set.len (known_ids (g.L.Lookup.holds l.held)) + btree_set_len l.added ≡ finite_set.len (known_ids (join (g.L.Lookup.holds l.held) (content_of (take l.op-index l.ops))));
  members : (q : Identifier) → (finite_set.contains (known_ids (g.L.Lookup.holds l.held)) q || contains id_cmp l.added q) ≡ finite_set.contains (known_ids (join (g.L.Lookup.holds l.held) (content_of (take l.op-index l.ops)))) q;
}
