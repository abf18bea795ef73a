use Rattle.std.proofs.Common.{◌≡◌, take, vec_len, vec_capacity}
use Rattle.rga_records.specs.Chains.{last_entry_of, AreRows}
use Rattle.rga_records.proofs.chains.add_rows.Given as goal

-- the elements so far have their records
abbrev pub invariant-loop-entry : goal.invariant-loop-entry
invariant-loop-entry l = record {
  rows : AreRows l.fn.parent (take l.entry-index l.chain) l.rows.items;
  last : l.last ≡ last_entry_of l.fn.parent (take l.entry-index l.chain);
  noted : vec_len l.rows ≡ l.entry-index;
  room : vec_capacity l.rows ≡ vec_capacity l.initial.rows;
}
