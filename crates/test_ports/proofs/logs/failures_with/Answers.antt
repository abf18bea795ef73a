use Rattle.std.proofs.Common.{◌∙◌, arith, sym}
use Rattle.mgr_port.proofs.RaisedLaws.{raised_is}
use Rattle.test_ports.proofs.logs.failures_with.Goals as goal

pub returns : goal.returns
returns c = c.saturating_add.ensures ∙ sym (raised_is c.args.failures c.args.more (omega (arith, c.ranges.failures.fits)))
