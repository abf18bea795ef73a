use Rattle.std.proofs.Common.{◌≡◌, ◌++◌, drop}
use Rattle.std.specs.Prelude.{string_bytes, encode_utf8_all}
use Rattle.rga_flat.proofs.reading.string_of.Given as goal

-- what is in it and what is left are all characters
abbrev pub invariant-loop-ch : goal.invariant-loop-ch
invariant-loop-ch l = string_bytes l.string ++ encode_utf8_all (drop l.ch-index l.chars) ≡ encode_utf8_all l.chars
