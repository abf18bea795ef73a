-- Identifiers that rise.
use Rattle.std.specs.Prelude.{List}
use Rattle.std.specs.List.Sorted.{IsStrictlySortedBy}
use Rattle.rga_ops.specs.Identifier.{Identifier, id_cmp}

-- each is less than all that follow
abbrev pub IsRising : List Identifier → Type 0
IsRising = IsStrictlySortedBy id_cmp
