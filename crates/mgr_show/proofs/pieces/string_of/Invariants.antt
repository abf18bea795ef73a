use Rattle.std.proofs.Common.{◌≡◌, ◌++◌, drop}
use Rattle.std.specs.Prelude.{string_bytes, encode_utf8_all}
use Rattle.mgr_show.specs.Authors.{characters}
use Rattle.mgr_show.proofs.pieces.string_of.Given as goal

-- what is in it and what is left are all characters
abbrev pub invariant-loop-character : goal.invariant-loop-character
invariant-loop-character l = string_bytes l.string ++ encode_utf8_all (characters (drop l.character-index l.written)) ≡ encode_utf8_all (characters l.written)
