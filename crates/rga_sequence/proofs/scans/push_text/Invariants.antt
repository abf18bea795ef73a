use Rattle.std.proofs.Common.{◌≡◌, ◌++◌, drop}
use Rattle.rga_sequence.specs.Entries.{visible_text}
use Rattle.rga_sequence.proofs.scans.push_text.Given as goal

abbrev pub invariant-loop-entry : goal.invariant-loop-entry
invariant-loop-entry l = l.chars.items ++ visible_text (drop l.entry-index l.entries) ≡ l.fn.chars.items ++ visible_text l.entries
