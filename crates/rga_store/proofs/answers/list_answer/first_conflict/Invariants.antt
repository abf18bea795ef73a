use Rattle.rga_store.proofs.Prelude.{◌≡◌, take, None, option_map, option_or, get, Identifier, id_cmp, Element, join, content_of, first_conflict}
use Rattle.std.specs.FinMap as finite_map
use Rattle.rga_store.proofs.answers.list_answer.first_conflict.Given as goal

-- the records and the map have the elements of the records and of the operations so far, none of which conflicts
abbrev pub invariant-loop-op : goal.invariant-loop-op
invariant-loop-op g l = record {
  elements : (q : Identifier) → option_or (option_map (λ (x : Element). (x.parent, x.ch)) (finite_map.get (g.L.Lookup.holds l.held).inserted q)) (get id_cmp l.added q)
      ≡ option_map (λ (x : Element). (x.parent, x.ch)) (finite_map.get (join (g.L.Lookup.holds l.held) (content_of (take l.op-index l.ops))).inserted q);
  free : first_conflict (g.L.Lookup.holds l.held) (take l.op-index l.ops) ≡ None;
}
