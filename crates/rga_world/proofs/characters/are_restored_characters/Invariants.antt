use Rattle.std.proofs.Common.{ℕ, length}
use Rattle.std.specs.Char.{IsScalar}
use Rattle.std.specs.List.{AllByRecursion}
use Rattle.rga_ops.specs.Identifier.{Identifier}
use Rattle.rga_world.proofs.characters.are_restored_characters.Given as goal

abbrev pub invariant-chars : goal.invariant-chars
invariant-chars l = AllByRecursion (λ (b : Identifier × ℕ). IsScalar b.1) l.rest → AllByRecursion (λ (b : Identifier × ℕ). IsScalar b.1) l.fn.back

abbrev pub decreases-chars : goal.decreases-chars
decreases-chars l = length l.rest
