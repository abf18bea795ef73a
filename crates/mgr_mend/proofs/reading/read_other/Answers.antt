use Rattle.std.proofs.Common.{◌≡◌, ◌++◌, rules, List, Ok, refl, ap₂, ◌∙◌}
use Rattle.std.proofs.lemmas.Option.{MatchOption-at_none, MatchOption-at_some}
use Rattle.rga_ops.specs.declared.op.Op.{Op}
use Rattle.rga_lines.specs.Log.{operations_at}
use Rattle.mgr_mend.proofs.reading.read_other.Goals as goal

pub returns-in_default : goal.returns-in_default
returns-in_default c = rw (MatchOption-at_none _ _ c.in_default.is c.in_ok-own.ensures).1 (record { ops = c.clear.ensures.items; count = refl })

pub returns-clause-ops : goal.returns-clause-ops
returns-clause-ops c =
    let said : operations_at c.args.line.now ≡ Ok c.in-Some.own.items = MatchOption-at_some _ _ _ c.in-Some.is c.in_ok-own.ensures in
    rw said (c.in_ok-extend_from_slice.ensures.items ∙ ap₂ (λ (front back : List Op). front ++ back) c.clear.ensures.items c.deref.ensures.value)

pub returns-clause-count : goal.returns-clause-count
returns-clause-count c =
    let said : operations_at c.args.line.now ≡ Ok c.in-Some.own.items = MatchOption-at_some _ _ _ c.in-Some.is c.in_ok-own.ensures in
    rw said (search rules)
