use Rattle.std.proofs.Common.{drop, ◌++◌, ◌∷◌, ◌≡◌}
use Rattle.std.specs.List.{take_while}
use Rattle.mg_plain.specs.Characters.{is_blank, newline_character}
use Rattle.mg_plain.proofs.insertions.newline_and_blanks.Given as goal

abbrev pub invariant-loop-c : goal.invariant-loop-c
invariant-loop-c l = l.put.items ++ take_while is_blank (drop l.c-index l.line) ≡ newline_character ∷ take_while is_blank l.line
