use Rattle.std.proofs.Common.{◌≡◌, ◌++◌, drop}
use Rattle.std.specs.Prelude.{string_bytes, encode_utf8_all}
use Rattle.rga_tree.proofs.walk.encoded.Given as goal

abbrev pub invariant-loop-ch : goal.invariant-loop-ch
invariant-loop-ch l = string_bytes l.text ++ encode_utf8_all (drop l.ch-index l.chars) ≡ encode_utf8_all l.chars
