use Rattle.std.proofs.Common.{arith}
use Rattle.rga_sequence.proofs.CountLaws.{count_within}
use Rattle.rga_sequence.proofs.block.Block.visible_len.Goals as goal

pub returns-clause-most : goal.returns-clause-most
returns-clause-most c = omega (arith, c.self.invariant.counted, c.self.invariant.room, count_within c.self.inside.entries.items)
