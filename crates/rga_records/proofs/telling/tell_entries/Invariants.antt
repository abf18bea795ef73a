use Rattle.std.proofs.Common.{take}
use Rattle.rga_records.proofs.ToldLaws.{told_deletions, told_insertions}
use Rattle.rga_records.proofs.telling.tell_entries.Given as goal

-- what the entries so far tell was heard
abbrev pub invariant-loop-entry : goal.invariant-loop-entry
invariant-loop-entry g l =
    g.L.Listener.hears l.initial.of_insertions (told_insertions (take l.entry-index l.entries)) l.of_insertions
    × g.M.Listener.hears l.initial.of_deletions (told_deletions (take l.entry-index l.entries)) l.of_deletions
