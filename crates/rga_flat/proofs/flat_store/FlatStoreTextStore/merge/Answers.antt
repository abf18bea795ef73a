use Rattle.std.proofs.Common.{◌≡◌, ◌≢◌, ◌≤◌, arith, Result, Ok, Err, OnOk, IfErr, sym, ap, ◌∙◌, subst}
use Rattle.std.specs.FinSet as finite_set
use Rattle.rga_ops.specs.Content.{Content, known_ids, join}
use Rattle.rga_ops.specs.Answer.{taken_one_by_one}
use Rattle.rga_ops.specs.ListAnswer.{Verdict, least_conflict, merge_answer}
use Rattle.rga_ops.specs.declared.refusal.Refusal.{Refusal}
use Rattle.rga_ops.specs.Prelude.{Memory}
use Rattle.rga_ops.proofs.ListAnswerLaws.{union_taken-iff}
use Rattle.rga_ops.proofs.TakenLaws.{took, refused}
use Rattle.rga_store.proofs.MergeSteps.{merge_one_by_one}
use Rattle.rga_store.proofs.TakingLaws as laws
use Rattle.rga_flat.proofs.flat_store.FlatStoreTextStore.merge.Goals as goal

-- a list that can be taken is refused for want of memory alone
refused_memory : (r answer : Verdict) (t : Result Content Refusal) (d : Content) → t ≡ Ok d → IfErr r (λ e. e ≢ Memory → t ≡ Err e) → answer ≡ Ok tt → r ≢ Err Memory → r ≡ answer
refused_memory (Ok u) answer t d all but_memory whole other = sym whole
refused_memory (Err e) answer t d all but_memory whole other =
    let clash : refused e ≡ took d = sym (but_memory (λ m. other (ap Err m))) ∙ all in
    absurd (cc)

pub returns-clause-exact : goal.returns-clause-exact
returns-clause-exact c =
    let fits : finite_set.len (known_ids (join c.self.inside.records.content c.other.inside.records.content)) ≤ c.self.inside.records.limit =
    omega (arith, c.count_unknown.ensures, c.known.ensures.known, c.known.ensures.within, c.limit.ensures.limit, c.if-count_unknown-room.false) in
    refused_memory c.take_whole.result (merge_answer c.args.self.now.limit c.args.self.now.content c.args.other.now.content)
    (taken_one_by_one c.self.inside.records.limit c.self.inside.records.content c.deref.result.now) (join c.self.inside.records.content c.other.inside.records.content)
    (ap (taken_one_by_one c.self.inside.records.limit c.self.inside.records.content) (c.deref.ensures.value ∙ c.in_ok-ops.ensures.ok)
    ∙ merge_one_by_one c.self.inside.records.limit c.self.inside.records.content c.other.inside.records.content c.known-known.ensures.sound (sym c.in_default.ensures) fits)
    c.take_whole.ensures.refused
    (sym (λ i. merge_answer (c.self.view_is i).limit (c.self.view_is i).content (c.other.view_is i).content)
    ∙ (union_taken-iff c.self.inside.records.limit (least_conflict c.self.inside.records.content c.other.inside.records.content) (join c.self.inside.records.content c.other.inside.records.content)).1 (sym c.in_default.ensures, fits))

pub returns-clause-joined : goal.returns-clause-joined
returns-clause-joined c whole =
    let fits : finite_set.len (known_ids (join c.self.inside.records.content c.other.inside.records.content)) ≤ c.self.inside.records.limit =
    omega (arith, c.count_unknown.ensures, c.known.ensures.known, c.known.ensures.within, c.limit.ensures.limit, c.if-count_unknown-room.false) in
    let same : took c.take_whole.new.records.content ≡ took (join c.self.inside.records.content c.other.inside.records.content) =
    sym (subst (λ r. OnOk r (taken_one_by_one c.self.inside.records.limit c.self.inside.records.content c.deref.result.now ≡ Ok c.take_whole.new.records.content)) whole c.take_whole.ensures.ok)
    ∙ ap (taken_one_by_one c.self.inside.records.limit c.self.inside.records.content) (c.deref.ensures.value ∙ c.in_ok-ops.ensures.ok)
    ∙ merge_one_by_one c.self.inside.records.limit c.self.inside.records.content c.other.inside.records.content c.known-known.ensures.sound (sym c.in_default.ensures) fits in
    let there : c.take_whole.new.records.content ≡ join c.self.inside.records.content c.other.inside.records.content = cc in
    there ∙ (λ i. join (c.self.view_is i).content (c.other.view_is i).content)

pub returns-clause-took : goal.returns-clause-took
returns-clause-took c = laws.all_taken _ _ _ c.take_whole.result (returns-clause-joined c)
