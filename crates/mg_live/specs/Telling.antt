-- What of the own operations is still to be saved and told.
use Rattle.std.specs.Prelude.{Bool, false, List, []}
use Rattle.rga_ops.specs.declared.op.Op.{Op}

-- what was made in the live buffer and is not told; in this block something was made, in whatever buffer, and nobody was
-- said to type; the live buffer took operations of others since its load
pub record Telling : Type 0 where
  pub untold : List Op
  pub made : Bool
  pub resting : Bool
  pub took : Bool

abbrev pub nothing_to_tell : Telling
nothing_to_tell = record { untold = []; made = false; resting = false; took = false }
