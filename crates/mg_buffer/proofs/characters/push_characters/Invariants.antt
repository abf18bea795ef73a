use Rattle.mg_buffer.proofs.Prelude.{◌≡◌, ◌++◌, drop, string_bytes, encode_utf8_all}
use Rattle.mg_buffer.proofs.characters.push_characters.Given as goal

abbrev pub invariant-loop-c : goal.invariant-loop-c
invariant-loop-c l = string_bytes l.text ++ encode_utf8_all (drop l.c-index l.characters) ≡ string_bytes l.fn.text ++ encode_utf8_all l.characters
