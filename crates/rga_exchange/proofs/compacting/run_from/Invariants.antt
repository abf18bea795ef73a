use Rattle.std.proofs.Common.{◌-◌, length}
use Rattle.rga_ops.specs.Content.{content_of}
use Rattle.rga_lines.specs.declared.run.TheConstants.{MAX_RUN}
use Rattle.rga_exchange.proofs.GoingOnLemmas.{IsRunBegun}
use Rattle.rga_exchange.proofs.compacting.run_from.Given as goal

abbrev pub invariant-chars : goal.invariant-chars
invariant-chars l = IsRunBegun (content_of l.ops) MAX_RUN l.id l.fn.ch l.chars.items l.last

abbrev pub decreases-chars : goal.decreases-chars
decreases-chars l = MAX_RUN - length l.chars.items
