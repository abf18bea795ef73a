use Rattle.rga_sequence.proofs.BlockLaws.{lesser_from}
use Rattle.rga_sequence.proofs.block.new_least.Goals as goal

pub returns-clause-old : goal.returns-clause-old
returns-clause-old c = lesser_from c.args.least c.lesser.result c.args.entries.now c.lesser.ensures.first c.requires

pub returns-clause-new : goal.returns-clause-new
returns-clause-new c = lesser_from c.least_of-new.result c.lesser.result c.args.more.now c.lesser.ensures.second c.least_of-new.ensures
