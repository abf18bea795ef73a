use Rattle.std.proofs.Common.{◌≡◌, ◌∷◌, [], ◌++◌, drop}
use Rattle.mg_keys.specs.KeyTable.{keys_of, first_entry}
use Rattle.mg_keys.proofs.table.first_entry.Given as goal

abbrev pub invariant-loop-entry : goal.invariant-loop-entry
invariant-loop-entry l = first_entry (drop l.entry-index l.entries) (keys_of l.prefix ++ l.byte ∷ []) ≡ first_entry l.fn.entries (keys_of l.prefix ++ l.byte ∷ [])
