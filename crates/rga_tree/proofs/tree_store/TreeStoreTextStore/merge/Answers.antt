use Rattle.std.proofs.Common.{◌≡◌, ◌≢◌, ◌≤◌, ℕ, arith, None, Result, Ok, Err, OnOk, IfErr, sym, ap, ◌∙◌, subst}
use Rattle.std.specs.FinSet as finite_set
use Rattle.rga_ops.specs.Content.{Content, known_ids, join}
use Rattle.rga_ops.specs.Operations.{operations}
use Rattle.rga_ops.specs.Answer.{taken_one_by_one}
use Rattle.rga_ops.specs.ListAnswer.{Verdict, least_conflict, merge_answer}
use Rattle.rga_ops.specs.declared.refusal.Refusal.{Refusal}
use Rattle.rga_ops.specs.Prelude.{Memory}
use Rattle.rga_ops.proofs.ListAnswerLaws.{union_taken-iff}
use Rattle.rga_ops.proofs.TakenLaws.{took, refused}
use Rattle.rga_store.specs.Kept.{Kept}
use Rattle.rga_tree.specs.Nodes.{content_of_nodes}
use Rattle.rga_store.specs.Counted.{IsCounted}
use Rattle.rga_store.proofs.MergeSteps.{merge_one_by_one}
use Rattle.rga_store.proofs.TakingLaws as laws
use Rattle.rga_tree.proofs.tree_store.TreeStoreTextStore.merge.Goals as goal

-- a store takes what another holds
all_taken : (c d : Content) (latest insertions identifiers limit : ℕ) (self other : Kept) → IsCounted d latest insertions identifiers limit → (room : ℕ) → record { content = c; limit = room } ≡ self → d ≡ other.content → None ≡ least_conflict c d → finite_set.len (known_ids (join c d)) ≤ room → taken_one_by_one self.limit self.content (operations other.content) ≡ Ok (join self.content other.content)
all_taken c d latest insertions identifiers limit self other w room view other_view free fits =
    subst (λ (v : Kept). taken_one_by_one v.limit v.content (operations other.content) ≡ Ok (join v.content other.content)) view
    (subst (λ e. taken_one_by_one room c (operations e) ≡ Ok (join c e)) other_view (merge_one_by_one room c d w.sound (sym free) fits))

-- and it answers so
all_answered : (c d : Content) (self other : Kept) (room : ℕ) → record { content = c; limit = room } ≡ self → d ≡ other.content → None ≡ least_conflict c d → finite_set.len (known_ids (join c d)) ≤ room → merge_answer self.limit self.content other.content ≡ Ok tt
all_answered c d self other room view other_view free fits =
    subst (λ (v : Kept). merge_answer v.limit v.content other.content ≡ Ok tt) view
    (subst (λ e. merge_answer room c e ≡ Ok tt) other_view ((union_taken-iff room (least_conflict c d) (join c d)).1 (sym free, fits)))

-- a list that can be taken is refused for want of memory alone
refused_memory : (r answer : Verdict) (t : Result Content Refusal) (d : Content) → t ≡ Ok d → IfErr r (λ e. e ≢ Memory → t ≡ Err e) → answer ≡ Ok tt → r ≢ Err Memory → r ≡ answer
refused_memory (Ok u) answer t d all but_memory whole other = sym whole
refused_memory (Err e) answer t d all but_memory whole other =
    let clash : refused e ≡ took d = sym (but_memory (λ m. other (ap Err m))) ∙ all in
    absurd (cc)

pub returns-clause-exact : goal.returns-clause-exact
returns-clause-exact c =
    let fits : finite_set.len (known_ids (join (content_of_nodes c.self.inside.nodes.entries) (content_of_nodes c.other.inside.nodes.entries))) ≤ c.self.inside.limit =
    omega (arith, c.count_unknown.ensures, c.self.invariant.counted.known, c.self.invariant.counted.room, c.if-count_unknown-self.false) in
    refused_memory c.take_whole.result _ (taken_one_by_one c.args.self.now.limit c.args.self.now.content c.deref.result.now) (join c.args.self.now.content c.args.other.now.content)
    (ap (taken_one_by_one c.args.self.now.limit c.args.self.now.content) (c.deref.ensures.value ∙ c.in_ok-ops.ensures.ok)
    ∙ all_taken (content_of_nodes c.self.inside.nodes.entries) (content_of_nodes c.other.inside.nodes.entries) c.other.inside.clock c.other.inside.inserted c.other.inside.known c.other.inside.limit
    c.args.self.now c.args.other.now c.other.invariant.counted c.self.inside.limit c.self.view_is (ap (λ (v : Kept). v.content) c.other.view_is) c.in_default.ensures fits)
    c.take_whole.ensures.refused
    (all_answered (content_of_nodes c.self.inside.nodes.entries) (content_of_nodes c.other.inside.nodes.entries) c.args.self.now c.args.other.now c.self.inside.limit c.self.view_is (ap (λ (v : Kept). v.content) c.other.view_is) c.in_default.ensures fits)

pub returns-clause-joined : goal.returns-clause-joined
returns-clause-joined c whole =
    let fits : finite_set.len (known_ids (join (content_of_nodes c.self.inside.nodes.entries) (content_of_nodes c.other.inside.nodes.entries))) ≤ c.self.inside.limit =
    omega (arith, c.count_unknown.ensures, c.self.invariant.counted.known, c.self.invariant.counted.room, c.if-count_unknown-self.false) in
    let same : took c.take_whole.new.self.content ≡ took (join c.args.self.now.content c.args.other.now.content) =
    sym (subst (λ r. OnOk r (taken_one_by_one c.args.self.now.limit c.args.self.now.content c.deref.result.now ≡ Ok c.take_whole.new.self.content)) whole c.take_whole.ensures.ok)
    ∙ ap (taken_one_by_one c.args.self.now.limit c.args.self.now.content) (c.deref.ensures.value ∙ c.in_ok-ops.ensures.ok)
    ∙ all_taken (content_of_nodes c.self.inside.nodes.entries) (content_of_nodes c.other.inside.nodes.entries) c.other.inside.clock c.other.inside.inserted c.other.inside.known c.other.inside.limit
    c.args.self.now c.args.other.now c.other.invariant.counted c.self.inside.limit c.self.view_is (ap (λ (v : Kept). v.content) c.other.view_is) c.in_default.ensures fits in
    cc

pub returns-clause-took : goal.returns-clause-took
returns-clause-took c = laws.all_taken _ _ _ c.take_whole.result (returns-clause-joined c)
