use Rattle.std.proofs.Common.{◌-◌, length}
use Rattle.rga_lines.specs.declared.run.TheConstants.{MAX_RUN}
use Rattle.rga_exchange.proofs.RunLineLaws.{IsFrontBegun}
use Rattle.rga_exchange.proofs.runs.run_in_front.Given as goal

abbrev pub invariant-chars : goal.invariant-chars
invariant-chars l = IsFrontBegun MAX_RUN l.id l.fn.ch l.behind l.chars.items l.last l.rest

abbrev pub decreases-chars : goal.decreases-chars
decreases-chars l = MAX_RUN - length l.chars.items
