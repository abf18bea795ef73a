use Rattle.std.proofs.lemmas.Result.{IfOk-weaker}
use Rattle.mgr_args.proofs.Adding.{rule_required, takes}
use Rattle.mgr_args.proofs.logs.join.Goals as goal

pub returns : goal.returns
returns c =
    let logs = rule_required _ _ _ c.required.ensures c.optional_logs-logs.ensures in
    IfOk-weaker c.arg.result _ _ (λ d is. takes _ d _ _ _ is c.described.ensures logs) c.arg.ensures
