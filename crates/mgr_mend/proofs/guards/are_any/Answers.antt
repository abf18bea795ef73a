use Rattle.std.proofs.Common.{ap, ◌∙◌, not}
use Rattle.mgr_mend.proofs.GuardLemmas.{any_is}
use Rattle.mgr_mend.proofs.guards.are_any.Goals as goal

pub returns : goal.returns
returns c = ap not c.is_empty.ensures ∙ any_is c.args.ops.now
