use Rattle.std.proofs.Common.{◌≡◌, ◌≤◌, ◌+◌, drop}
use Rattle.rga_sequence.specs.Entries.{visible_count}
use Rattle.rga_sequence.proofs.scans.count_visible.Given as goal

abbrev pub invariant-loop-entry : goal.invariant-loop-entry
invariant-loop-entry l = record {
  within : l.count ≤ l.entry-index;
  counted : l.count + visible_count (drop l.entry-index l.entries) ≡ visible_count l.entries;
}
