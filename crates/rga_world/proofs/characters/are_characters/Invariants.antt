use Rattle.std.proofs.Common.{length}
use Rattle.std.specs.Char.{IsScalar}
use Rattle.std.specs.List.{AllByRecursion}
use Rattle.rga_world.proofs.characters.are_characters.Given as goal

abbrev pub invariant-chars : goal.invariant-chars
invariant-chars l = AllByRecursion IsScalar l.rest → AllByRecursion IsScalar l.fn.chars

abbrev pub decreases-chars : goal.decreases-chars
decreases-chars l = length l.rest
