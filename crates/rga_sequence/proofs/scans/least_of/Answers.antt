use Rattle.rga_sequence.proofs.BlockLaws.{from_more}
use Rattle.rga_sequence.proofs.scans.least_of.Goals as goal

pub loop-entry-preserved : goal.loop-entry-preserved
loop-entry-preserved c = from_more c.loop-entry.least c.lesser-least.result c.args.entries.now c.loop-entry.entry-index c.entry-item.result c.loop-entry-test.true c.entry-item.is c.lesser-least.ensures.first c.lesser-least.ensures.second c.loop-entry.invariant
