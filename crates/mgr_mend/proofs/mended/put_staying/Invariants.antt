use Rattle.std.proofs.Common.{◌≡◌, ◌++◌, length}
use Rattle.rga_exchange.specs.Sending.{log_text}
use Rattle.mgr_mend.specs.Parts.{staying}
use Rattle.mgr_mend.proofs.mended.put_staying.Given as goal

abbrev pub invariant-staying : goal.invariant-staying
invariant-staying l = l.log.items ++ log_text (staying l.rest) ≡ l.fn.log.items ++ log_text (staying l.fn.own)

abbrev pub decreases-staying : goal.decreases-staying
decreases-staying l = length l.rest
