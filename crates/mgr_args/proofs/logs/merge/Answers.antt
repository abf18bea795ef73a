use Rattle.std.proofs.lemmas.Result.{IfOk-weaker}
use Rattle.mgr_args.proofs.Adding.{takes}
use Rattle.mgr_args.proofs.logs.merge.Goals as goal

pub returns : goal.returns
returns c =
    let named = takes _ _ _ _ _ c.in_ok-arg.ensures c.described.ensures c.name.ensures in
    let logs = takes _ _ _ _ _ c.in_ok-arg-2.ensures named c.optional_logs.ensures in
    IfOk-weaker c.arg-3.result _ _ (λ d is. takes _ d _ _ _ is logs c.flag.ensures) c.arg-3.ensures
