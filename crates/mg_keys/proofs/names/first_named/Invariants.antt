use Rattle.std.proofs.Common.{◌≡◌, drop}
use Rattle.mg_keys.specs.Names.{first_named}
use Rattle.mg_keys.proofs.names.first_named.Given as goal

abbrev pub invariant-loop-entry : goal.invariant-loop-entry
invariant-loop-entry l = first_named (drop l.entry-index l.entries) l.text ≡ first_named l.fn.entries l.text
