use Rattle.rga_lines.proofs.Prelude.{◌≡◌, ◌++◌, length, string_bytes, IsScalar, flat_map, AllByRecursion, escaped}
use Rattle.rga_lines.proofs.writing.push_all.Given as goal

abbrev pub invariant-chars : goal.invariant-chars
invariant-chars l = record {
  bytes : string_bytes l.text ++ flat_map escaped l.rest ≡ string_bytes l.fn.text ++ flat_map escaped l.fn.chars;
  scalars : AllByRecursion IsScalar l.rest → AllByRecursion IsScalar l.fn.chars;
}

abbrev pub decreases-chars : goal.decreases-chars
decreases-chars l = length l.rest
