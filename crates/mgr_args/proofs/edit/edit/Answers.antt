use Rattle.std.proofs.lemmas.Result.{IfOk-weaker}
use Rattle.mgr_args.proofs.Adding.{rule_defaulted, rule_required, takes}
use Rattle.mgr_args.proofs.edit.edit.Goals as goal

pub returns : goal.returns
returns c =
    let named = takes _ _ _ _ _ c.in_ok-arg.ensures c.described.ensures c.name.ensures in
    let replica = takes _ _ _ _ _ c.in_ok-arg-2.ensures named (rule_required _ _ _ c.required.ensures c.number.ensures) in
    let rows = takes _ _ _ _ _ c.in_ok-arg-3.ensures replica (rule_defaulted c.number-2.result c.default_value.result _ _ c.default_value.ensures c.number-2.ensures) in
    let columns = takes _ _ _ _ _ c.in_ok-arg-4.ensures rows (rule_defaulted c.number-3.result c.default_value-2.result _ _ c.default_value-2.ensures c.number-3.ensures) in
    let fill = takes _ _ _ _ _ c.in_ok-arg-5.ensures columns (rule_defaulted c.number-4.result c.default_value-3.result _ _ c.default_value-3.ensures c.number-4.ensures) in
    let port = takes _ _ _ _ _ c.in_ok-arg-6.ensures fill c.number-5.ensures in
    let trace = takes _ _ _ _ _ c.in_ok-arg-7.ensures port c.flag.ensures in
    let live = takes _ _ _ _ _ c.in_ok-arg-8.ensures trace c.flag-2.ensures in
    let changes = takes _ _ _ _ _ c.in_ok-arg-9.ensures live c.flag-3.ensures in
    let runs = takes _ _ _ _ _ c.in_ok-arg-10.ensures changes c.flag-4.ensures in
    let brief = takes _ _ _ _ _ c.in_ok-arg-11.ensures runs c.flag-5.ensures in
    IfOk-weaker c.arg-12.result _ _ (λ d is. takes _ d _ _ _ is brief c.flag-6.ensures) c.arg-12.ensures
