use Rattle.rga_store.proofs.Prelude.{◌≡◌, Bool, true, false, cond, ◌||◌, refl, sym, ap, ◌∙◌, is_id, Content, is, is_id-same, held_adds_nothing, Delete}
use Rattle.std.specs.FinSet as finite_set
use Rattle.indexmap.specs.IndexSet.{contains}
use Rattle.rga_store.proofs.StepLaws.{deleted_now}
use Rattle.rga_store.proofs.answers.new_operations.deletion_is_new.Goals as goal

put_last : (t a b : Bool) → (a || cond t true b) ≡ ((a || b) || t)
put_last t true b = refl
put_last true false true = refl
put_last true false false = refl
put_last false false true = refl
put_last false false false = refl

pub returns-then-is_deleted-clause-added : goal.returns-then-is_deleted-clause-added
returns-then-is_deleted-clause-added g c = λ d reached q.
    reached q
    ∙ ap (λ (e : Content). finite_set.contains e.deleted q) (sym (held_adds_nothing d (Delete c.args.id)
    (sym (reached c.args.id) ∙ ap (λ b. b || contains is_id c.args.added.now c.args.id) (sym c.is_deleted.ensures ∙ c.if-is_deleted.true))))

pub returns-clause-added : goal.returns-clause-added
returns-clause-added g c = λ d reached q.
    ap (λ b. finite_set.contains (g.S.Taker.content c.args.store.now).deleted q || b) (c.in_ok-is_new.ensures.updates.0 q
    ∙ ap (λ t. cond t true (contains is_id c.args.added.now q)) (is_id-same c.args.id q))
    ∙ put_last (is q c.args.id) (finite_set.contains (g.S.Taker.content c.args.store.now).deleted q) (contains is_id c.args.added.now q)
    ∙ ap (λ b. b || is q c.args.id) (reached q)
    ∙ sym (deleted_now d c.args.id q)
