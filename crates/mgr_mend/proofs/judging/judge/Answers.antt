use Rattle.std.proofs.Common.{◌≡◌, ◌+◌, ◌<◌, ◌++◌, ◌∷◌, [], take, map, length, Bool, sym, ap, ap₂, subst, ◌∙◌, arith}
use Rattle.std.specs.Prelude.{List, Contains}
use Rattle.std.proofs.lemmas.List.{map_more, take_more, take_all}
use Rattle.std.proofs.lemmas.List.Elements.{Contains-get_or}
use Rattle.rga_ops.specs.declared.op.Op.{Op}
use Rattle.mgr_mend.specs.declared.judging.Judged.{Judged}
use Rattle.mgr_mend.specs.Parts.{judged, AreWritableIfSound}
use Rattle.rga_ops.proofs.OperationLaws.{Contains-nil}
use Rattle.mgr_mend.proofs.LeastLemmas.{writable_more}
use Rattle.mgr_mend.proofs.judging.judge.Goals as goal

pub loop-op-preserved : goal.loop-op-preserved
loop-op-preserved c =
    let ops : List Op = c.args.ops.now in
    let i = c.loop-op.op-index in
    let within : i < length ops = omega arith in
    let there : Contains ops c.op-item.result = subst (Contains ops) (sym c.op-item.is) (Contains-get_or ops i c.op-item.result within) in
    let told = c.in_ok-beaten.ensures ops c.in_ok-least.ensures there in
    let made = λ (o : Op) (b : Bool). let j : Judged = record { op = o; beaten = b } in j in
    let next : take (i + 1) ops ≡ take i ops ++ c.op-item.result ∷ [] = take_more ops i c.op-item.result within ∙ ap (λ (o : Op). take i ops ++ o ∷ []) (sym c.op-item.is) in
    record {
      listed = c.in_ok-push.ensures.items
          ∙ ap₂ (λ (xs : List Judged) (b : Bool). xs ++ made c.op-item.result b ∷ []) c.loop-op.invariant.listed told
          ∙ ap (λ (o : Op). map (judged ops) (take i ops) ++ judged ops o ∷ []) c.op-item.is
          ∙ sym (map_more (judged ops) ops i c.op-item.result within);
      writable = subst AreWritableIfSound (sym next) (writable_more (take i ops) c.op-item.result c.loop-op.invariant.writable c.tell_writable.ensures);
    }

pub loop-op-init : goal.loop-op-init
loop-op-init c = record { listed = c.in_ok-list.ensures.items; writable = λ op there. absurd (Contains-nil op there) }

pub returns-clause-writable : goal.returns-clause-writable
returns-clause-writable c =
    let ops : List Op = c.args.ops.now in
    subst AreWritableIfSound (take_all c.loop-op.op-index ops (omega arith)) c.loop-op.invariant.writable

pub returns-clause-list : goal.returns-clause-list
returns-clause-list c =
    let ops : List Op = c.args.ops.now in
    c.loop-op.invariant.listed ∙ ap (map (judged ops)) (take_all c.loop-op.op-index ops (omega arith))
