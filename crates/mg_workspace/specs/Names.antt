-- Buffers by their names, and where they stand once one is removed.
use Rattle.std.specs.Prelude.{ℕ, ◌+◌, ◌-◌, Bool, List, length, Option, Some, position, chars, nat_eq, nat_lt, if◌then◌else◌}
use Rattle.std.specs.Cmp.Lexicographic.{pointwise}
use Rattle.mg_buffer.specs.OpenState.{OpenState}

-- the characters are a buffer's name
abbrev pub is_named : List ℕ → OpenState → Bool
is_named name b = pointwise nat_eq (chars b.buffer.name) name

-- the index of the buffer of that name
abbrev pub buffer_named : List ℕ → List OpenState → Option ℕ
buffer_named name bs = position (is_named name) bs

-- the index of the buffer that an answer asks for: without a name another one, which is this
abbrev pub asked : List ℕ → ℕ → List OpenState → Option ℕ
asked name otherwise bs = if nat_eq (length name) 0 then Some otherwise else buffer_named name bs

-- the next index of so many, round
abbrev pub next_round : ℕ → ℕ → ℕ
next_round count i = if nat_lt (i + 1) count then i + 1 else 0

-- where a buffer stands once the one at an index is removed; what was that one is the first
abbrev pub moved : ℕ → ℕ → ℕ
moved gone i = if nat_eq i gone then 0 else (if nat_lt gone i then i - 1 else i)
