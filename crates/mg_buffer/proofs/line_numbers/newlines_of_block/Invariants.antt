use Rattle.mg_buffer.proofs.Prelude.{◌≡◌, take, count_by}
use Rattle.mg_plain.specs.Characters.{is_newline}
use Rattle.mg_buffer.proofs.line_numbers.newlines_of_block.Given as goal

abbrev pub invariant-loop-c : goal.invariant-loop-c
invariant-loop-c l = l.count ≡ count_by is_newline (take l.c-index l.block)
