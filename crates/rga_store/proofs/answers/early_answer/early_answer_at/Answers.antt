use Rattle.rga_store.proofs.Prelude.{◌≡◌, Some, sym, ap, ◌∙◌, Content, join, content_of, and_check, union_answer, first_conflict, early_is_first, first_conflict-iff}
use Rattle.rga_store.proofs.answers.early_answer.early_answer_at.Goals as goal

pub returns-in-Some-clause-refused : goal.returns-in-Some-clause-refused
returns-in-Some-clause-refused g c = λ limit.
    let s : Content = g.S.Taker.content c.args.store.now in
    let first : first_conflict s c.args.ops.now ≡ Some c.in-Some.id =
    (first_conflict-iff s c.args.ops.now c.in-Some.id).1 (early_is_first s c.args.ops.now c.in-Some.id (sym c.early_conflict_at.ensures ∙ c.in-Some.is)) in
    ap (λ v. and_check v (union_answer limit (first_conflict s c.args.ops.now) (join s (content_of c.args.ops.now)))) (sym c.check_each.ensures ∙ c.in_ok-check_each.was)
    ∙ ap (λ o. union_answer limit o (join s (content_of c.args.ops.now))) first
