use Rattle.std.proofs.Common.{◌≡◌, ◌≤◌, ◌+◌, ◌++◌, drop, length, vec_capacity, vec_len, encode_utf8_all}
use Rattle.std.specs.Str.{IsUtf8}
use Rattle.mg_buffer.proofs.characters.bytes_of.Given as goal

-- these bytes and those of the characters that are left are those of all, and for each that is left there is room for one
abbrev pub invariant-loop-index : goal.invariant-loop-index
invariant-loop-index l = record {
  bytes : l.bytes.items ++ encode_utf8_all (drop l.index l.characters) ≡ encode_utf8_all l.characters;
  utf8 : IsUtf8 l.bytes.items;
  room : vec_len l.bytes + length l.characters ≤ vec_capacity l.bytes + l.index;
}
