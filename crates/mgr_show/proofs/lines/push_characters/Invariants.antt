use Rattle.std.proofs.Common.{◌≡◌, ◌++◌, drop}
use Rattle.std.specs.Prelude.{string_bytes, encode_utf8_all}
use Rattle.mgr_show.specs.Authors.{characters, without_newline}
use Rattle.mgr_show.proofs.lines.push_characters.Given as goal

abbrev pub invariant-loop-character : goal.invariant-loop-character
invariant-loop-character l =
    string_bytes l.text ++ encode_utf8_all (without_newline (characters (drop l.character-index l.line))) ≡ string_bytes l.fn.text ++ encode_utf8_all (without_newline (characters l.line))
