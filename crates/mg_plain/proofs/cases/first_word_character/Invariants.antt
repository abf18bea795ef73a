use Rattle.std.proofs.Common.{length, ◌-◌, ◌≡◌, ◌≤◌}
use Rattle.mg_plain.specs.Cases.{first_word_character}
use Rattle.mg_plain.proofs.cases.first_word_character.Given as goal

abbrev pub invariant-loop-i : goal.invariant-loop-i
invariant-loop-i l = record { same : first_word_character l.text l.fn.q ≡ first_word_character l.text l.i; within : l.i ≤ length l.text }

abbrev pub decreases-loop-i : goal.decreases-loop-i
decreases-loop-i l = length l.text - l.i
