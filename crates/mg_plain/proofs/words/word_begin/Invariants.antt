use Rattle.std.proofs.Common.{◌≡◌, ◌≤◌}
use Rattle.mg_plain.specs.Scans.{greatest_up_to}
use Rattle.mg_plain.specs.Words.{begins_word, word_begin}
use Rattle.mg_plain.proofs.words.word_begin.Given as goal

abbrev pub invariant-loop-b : goal.invariant-loop-b
invariant-loop-b l = record { same : word_begin l.text l.fn.q ≡ greatest_up_to (begins_word l.text) l.b; within : l.b ≤ l.fn.q }

abbrev pub decreases-loop-b : goal.decreases-loop-b
decreases-loop-b l = l.b
