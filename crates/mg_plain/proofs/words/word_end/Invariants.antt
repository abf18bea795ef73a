use Rattle.std.proofs.Common.{length, ◌-◌, ◌<◌, ◌≡◌, ◌≤◌}
use Rattle.mg_plain.specs.Scans.{least_from}
use Rattle.mg_plain.specs.Words.{ends_word, word_end}
use Rattle.mg_plain.proofs.words.word_end.Given as goal

abbrev pub invariant-loop-e : goal.invariant-loop-e
invariant-loop-e l = record { same : word_end l.text l.fn.q ≡ least_from (ends_word l.text) l.e (length l.text); behind : l.fn.q < l.e; within : l.e ≤ length l.text }

abbrev pub decreases-loop-e : goal.decreases-loop-e
decreases-loop-e l = length l.text - l.e
