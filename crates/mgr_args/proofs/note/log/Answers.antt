use Rattle.std.proofs.lemmas.Result.{IfOk-weaker}
use Rattle.mgr_args.proofs.Adding.{takes}
use Rattle.mgr_args.proofs.note.log.Goals as goal

pub returns : goal.returns
returns c =
    let named = takes _ _ _ _ _ c.in_ok-arg.ensures c.described.ensures c.name.ensures in
    IfOk-weaker c.arg-2.result _ _ (λ d is. takes _ d _ _ _ is named c.flag.ensures) c.arg-2.ensures
