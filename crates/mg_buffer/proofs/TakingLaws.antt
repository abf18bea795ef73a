-- What a buffer is after operations that were taken.
use Rattle.mg_buffer.proofs.Prelude.{◌≡◌, ℕ, true, List, [], ◌∷◌, ◌++◌, Option, Result, Ok, MatchResult, is_err, refl, sym, ap, ◌∙◌, subst, append-nil, join, content_of, single, Op, Splice, Past, State, TakesOperations, takes_no_operations}
use Rattle.std.proofs.lemmas.Result.{MatchResult-from_err}
use Rattle.rga_ops.specs.Answer.{answer}
use Rattle.rga_ops.specs.NewOperations.{new_operations}
use Rattle.rga_ops.specs.declared.refusal.Refusal.{Refusal}
use Rattle.rga_ops.specs.declared.refusal.Taken.TheVariants.{New, Known}
use Rattle.rga_ops.proofs.AnswerLaws.{known-iff}
use Rattle.rga_ops.proofs.ContentLaws.{join_nothing}
use Rattle.rga_ops.proofs.NewLaws.{new_if_new, none_if_known}
use Rattle.rga_ops.proofs.TakenLaws.{held_adds_nothing}
use Rattle.rga_store.proofs.TakingLaws.{joined_taken}
use Rattle.mg_buffer.specs.Following.{TakesUnsaved, with_operations}
use Rattle.mg_buffer.specs.Ran.{Edited, operations_of_splices}
use Rattle.mg_buffer.specs.Undid.{Reverted, undo_operations}

-- where there is an error, and all is as it was
pub refused : {A : Type 0} (r : Result A Refusal) (ops : List Op) (b d : State) → is_err r ≡ true → d ≡ b → MatchResult r (λ _. TakesOperations b ops d) (λ _. TakesOperations b [] d)
refused r ops b d fails same = MatchResult-from_err r _ _ fails (λ _. subst (TakesOperations b []) (sym same) (takes_no_operations b))

pub known_adds_nothing : (b d : State) (op : Op) → answer b.limit b.content op ≡ Ok Known → d ≡ b → TakesOperations b (op ∷ []) d
known_adds_nothing b d op known same = subst (TakesOperations b (op ∷ [])) (sym same) (record {
  content = sym (ap (join b.content) (join_nothing (single op)) ∙ held_adds_nothing b.content op ((known-iff b.limit b.content op).0 known).1);
  unsaved = sym (ap (λ xs. b.unsaved ++ xs) (none_if_known b.limit b.content op known) ∙ append-nil b.unsaved);
  rest = refl;
})

pub all_are_added : (b d : State) (ops : List Op) → d ≡ record b { content = join b.content (content_of ops); unsaved = b.unsaved ++ new_operations b.content ops } → TakesOperations b ops d
all_are_added b d ops is = subst (TakesOperations b ops) (sym is) (record { content = refl; unsaved = refl; rest = refl })

pub new_is_added : (b d : State) (op : Op) → answer b.limit b.content op ≡ Ok New → d ≡ record b { content = join b.content (single op); unsaved = b.unsaved ++ op ∷ [] } → TakesOperations b (op ∷ []) d
new_is_added b d op new is =
    all_are_added b d (op ∷ []) (is ∙ (λ k. record b { content = join b.content (sym (join_nothing (single op)) k); unsaved = b.unsaved ++ sym (new_if_new b.limit b.content op new) k }))

-- what was taken is all that changed
pub as_stated : {b d : State} {ops : List Op} → TakesOperations b ops d → d ≡ with_operations ops b
as_stated {b} {d} {ops} t = t.rest ∙ (λ k. record b { content = t.content k; unsaved = t.unsaved k })

pub nothing_stated : {b d : State} → TakesOperations b [] d → d ≡ b
nothing_stated {b} {d} t = as_stated t ∙ sym (as_stated (takes_no_operations b))

-- ---- own operations

pub edited_taken : {splices : List Splice} {at : ℕ} {mark_at : Option ℕ} {b d : State} → Edited splices at mark_at b d → TakesUnsaved b d
edited_taken {splices} {at} {mark_at} {b} {d} e =
    let ops : List Op = operations_of_splices b splices in
    (ops, e.unsaved, joined_taken b.content d.content ops e.content)

pub reverted_taken : {i : ℕ} {g : Past} {b d : State} → Reverted i g b d → TakesUnsaved b d
reverted_taken {i} {g} {b} {d} r =
    let ops : List Op = undo_operations b g in
    (ops, r.unsaved, joined_taken b.content d.content ops r.content)
