use Rattle.std.proofs.Common.{◌≡◌, ◌+◌, ◌<◌, ◌++◌, ◌∷◌, [], take, length, sym, ap, subst, ◌∙◌, arith}
use Rattle.std.specs.Prelude.{List}
use Rattle.std.proofs.lemmas.List.{take_more, take_all}
use Rattle.rga_ops.specs.declared.op.Op.{Op}
use Rattle.mgr_mend.specs.Parts.{HasLeast}
use Rattle.mgr_mend.proofs.judging.least_insertions.Goals as goal

pub loop-op-preserved : goal.loop-op-preserved
loop-op-preserved c =
    let ops : List Op = c.args.ops.now in
    let i = c.loop-op.op-index in
    let within : i < length ops = omega arith in
    let next : take (i + 1) ops ≡ take i ops ++ c.op-item.result ∷ [] = take_more ops i c.op-item.result within ∙ ap (λ (o : Op). take i ops ++ o ∷ []) (sym c.op-item.is) in
    subst (λ (xs : List Op). HasLeast xs c.put_least.new.least) (sym next) (c.in_ok-put_least.ensures (take i ops) c.loop-op.invariant)

pub returns : goal.returns
returns c =
    let ops : List Op = c.args.ops.now in
    subst (λ (xs : List Op). HasLeast xs c.loop-op.least) (take_all c.loop-op.op-index ops (omega arith)) c.loop-op.invariant
