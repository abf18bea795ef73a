use Rattle.std.proofs.Common.{◌≡◌, ◌≤◌, sym, ap, ◌∙◌, subst}
use Rattle.std.specs.Prelude.{Ok, Err}
use Rattle.std.specs.FinSet as finite_set
use Rattle.rga_ops.specs.Content.{known_ids, join, content_of}
use Rattle.rga_ops.specs.ListAnswer.{list_answer, early_conflict}
use Rattle.rga_ops.proofs.ListAnswerLaws.{one_by_one_list, list_one_by_one}
use Rattle.rga_ops.proofs.EarlyLaws.{no_early_if_taken}
use Rattle.rga_ops.proofs.TakenLaws.{taken_list_is, took, refused}
use Rattle.rga_store.specs.Kept.{Kept}
use Rattle.rga_store.proofs.BackLaws.{not_refused}
use Rattle.rga_store.proofs.TakingLaws.{list_taken}
use Rattle.rga_flat.proofs.flat_store.FlatStoreTaker.apply_all.Goals as goal

pub returns-in_default-clause-exact : goal.returns-in_default-clause-exact
returns-in_default-clause-exact c = λ _.
    let fits : finite_set.len (known_ids c.self.inside.records.content) ≤ c.self.inside.records.limit = subst (λ n. n ≤ c.self.inside.records.limit) c.known-known.ensures.known c.known-known.ensures.within in
    sym (one_by_one_list c.self.inside.records.limit c.self.inside.records.content c.take_whole.new.records.content c.args.ops.now fits c.in_default.ensures.ok)
    ∙ ap (λ (v : Kept). list_answer v.limit v.content c.args.ops.now) c.self.view_is

pub returns-in_default-clause-whole : goal.returns-in_default-clause-whole
returns-in_default-clause-whole c = λ _.
    (taken_list_is c.self.inside.records.limit c.self.inside.records.content c.args.ops.now c.take_whole.new.records.content c.in_default.ensures.ok).joined
    ∙ ap (λ (v : Kept). join v.content (content_of c.args.ops.now)) c.self.view_is

pub returns-in_default-clause-took : goal.returns-in_default-clause-took
returns-in_default-clause-took c = list_taken _ _ c.args.ops.now (Ok tt) (returns-in_default-clause-whole c)

-- ---- the list was refused, and could be taken

takeable : (c : goal.In_ok-answer_to_list) → list_answer c.self.inside.records.limit c.self.inside.records.content c.args.ops.now ≡ Ok tt
takeable c =
    (λ i. list_answer (sym c.take_whole.ensures.limit i) (sym c.in-Err.ensures.same i) c.args.ops.now) ∙ sym (c.in_ok-answer_to_list.ensures.exact not_refused)

-- so it was refused for want of memory
pub returns-clause-exact : goal.returns-clause-exact
returns-clause-exact c = λ other.
    let clash : refused c.in-Err.refused ≡ took (join c.self.inside.records.content (content_of c.args.ops.now)) =
    sym (c.in-Err.ensures.refused (λ m. other (ap Err m))) ∙ list_one_by_one _ _ _ (takeable c) in
    absurd (cc)

pub returns-clause-early : goal.returns-clause-early
returns-clause-early c = λ _.
    sym (ap (λ (v : Kept). early_conflict v.content c.args.ops.now) c.self.view_is)
    ∙ no_early_if_taken c.self.inside.records.content c.self.inside.records.limit c.args.ops.now (takeable c)
