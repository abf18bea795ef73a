use Rattle.mg_buffer.proofs.Prelude.{◌≡◌, ◌≤◌, ◌+◌, length, count_by}
use Rattle.mg_plain.specs.Characters.{is_newline}
use Rattle.mg_buffer.proofs.line_numbers.newlines.Given as goal

abbrev pub invariant-loop-rest : goal.invariant-loop-rest
invariant-loop-rest l = record {
  counted : l.count + count_by is_newline l.rest ≡ count_by is_newline l.text;
  within : l.count + length l.rest ≤ length l.text;
}

abbrev pub decreases-loop-rest : goal.decreases-loop-rest
decreases-loop-rest l = length l.rest
