use Rattle.std.proofs.Common.{◌≡◌, ◌-◌, false, take}
use Rattle.rga_sequence.specs.Entries.{has}
use Rattle.rga_sequence.specs.Blocks.{flat}
use Rattle.std.specs.Prelude.{vec_len}
use Rattle.rga_sequence.proofs.finding.find_in_all.Given as goal

abbrev pub invariant-loop-block : goal.invariant-loop-block
invariant-loop-block l = has l.id (flat (take l.block l.blocks.items)) ≡ false

abbrev pub decreases-loop-block : goal.decreases-loop-block
decreases-loop-block l = vec_len l.blocks - l.block
