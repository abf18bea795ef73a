-- The answers to a list that is taken whole or not at all: which of them comes exactly when.
use Rattle.std.proofs.Common.{◌≡◌, ℕ, ◌<◌, ◌≤◌, true, false, cond, List, [], ◌∷◌, ◌++◌, refl, sym, ap, ◌∙◌, subst, arith, inl, inr, true≢false}
use Rattle.std.specs.Prelude.{Option, Some, None, Ok, Err, ◌⊎◌, ◌↔◌}
use Rattle.std.specs.Option.{option_or}
use Rattle.std.specs.FinSet as finite_set
use Rattle.std.proofs.lemmas.Option.{same_Some, none-some}
use Rattle.rga_ops.specs.Identifier.{Identifier}
use Rattle.rga_ops.specs.Operation.{checked, id_of}
use Rattle.rga_ops.specs.Content.{Content, nothing, known_ids, join, single, content_of, HasAnother, IsAgreed}
use Rattle.rga_ops.specs.Answer.{taken_one_by_one}
use Rattle.rga_ops.specs.ListAnswer.{Verdict, and_check, all_checked, has_another, first_conflict, union_answer, list_answer, AreWellFormed, IsJoinable, IsFirstIllFormed, IsFirstConflict}
use Rattle.rga_ops.proofs.ContentLaws.{join_assoc, join_nothing, or_cond}
use Rattle.rga_ops.proofs.OperationLaws.{Contains-first, Contains-later, Contains-cases, Contains-nil, content_inserted}
use Rattle.rga_ops.proofs.AnswerLaws.{passed, bad, IsOfOperation, ill_formed-iff, IsAnswered}
use Rattle.rga_ops.proofs.TakenLaws.{AreTaken, taken_list_is, taken_list_agrees}
use Rattle.rga_ops.proofs.KnownLaws.{taken_list_within, takeable_is_taken}
use Rattle.rga_ops.proofs.AgreeLaws.{has_another-iff, no_other-iff, joinable_nothing, joinable-iff}
use Rattle.rga_ops.specs.declared.op.Op.{Op}
use Rattle.rga_ops.specs.declared.op.Op.TheVariants.{Insert}
use Rattle.rga_ops.specs.declared.refusal.Refusal.{Refusal}
use Rattle.rga_ops.specs.declared.refusal.Refusal.TheVariants.{Conflict, Full}
use Rattle.std.proofs.lemmas.Bool.Decides.{nat_tests}

-- ---- two verdicts, one after the other

and_check-ok : (v r : Verdict) → (and_check v r ≡ Ok tt) ↔ ((v ≡ Ok tt) × (r ≡ Ok tt))
and_check-ok v r = (λ h. grind arith, λ h. grind arith)

and_check-err : (v r : Verdict) (e : Refusal) → (and_check v r ≡ Err e) ↔ ((v ≡ Err e) ⊎ ((v ≡ Ok tt) × (r ≡ Err e)))
and_check-err v r e = (λ h. grind arith, λ h. grind arith)

and_check-assoc : (u v r : Verdict) → and_check (and_check u v) r ≡ and_check u (and_check v r)
and_check-assoc u v r = grind arith

-- ---- well-formed lists

pub well_formed-iff : (op : Op) (ops : List Op) → AreWellFormed (op ∷ ops) ↔ ((checked op ≡ Ok tt) × AreWellFormed ops)
well_formed-iff op ops = (
  λ w. (w op (Contains-first op ops), λ o m. w o (Contains-later op o ops m)),
  λ (first, later) o m. elim (Contains-cases op o ops m) [ inl here ↦ subst (λ x. checked x ≡ Ok tt) here first | inr there ↦ later o there ],
)

pub all_checked-iff : (ops : List Op) → (all_checked ops ≡ Ok tt) ↔ AreWellFormed ops
all_checked-iff [] = (λ h op m. absurd (Contains-nil op m), λ w. refl)
all_checked-iff (op ∷ ops) = (
  λ h. let s = (and_check-ok (checked op) (all_checked ops)).0 h in (well_formed-iff op ops).1 (s.0, (all_checked-iff ops).0 s.1),
  λ w. let s = (well_formed-iff op ops).0 w in (and_check-ok (checked op) (all_checked ops)).1 (s.0, (all_checked-iff ops).1 s.1),
)

-- two lists in a row
pub all_checked-append : (xs ys : List Op) → all_checked (xs ++ ys) ≡ and_check (all_checked xs) (all_checked ys)
all_checked-append [] ys = refl
all_checked-append (x ∷ xs) ys = ap (and_check (checked x)) (all_checked-append xs ys) ∙ sym (and_check-assoc (checked x) (all_checked xs) (all_checked ys))

-- the first that is ill-formed is refused
pub all_checked_refused : (xs ys : List Op) (op : Op) (e : Refusal) → all_checked xs ≡ Ok tt → checked op ≡ Err e → all_checked (xs ++ op ∷ ys) ≡ Err e
all_checked_refused xs ys op e well refused = grind (arith, all_checked-append xs (op ∷ ys))

pub first_ill_formed-iff : (ops : List Op) (e : Refusal) → (all_checked ops ≡ Err e) ↔ IsFirstIllFormed ops e
first_ill_formed-iff ops e = (tells ops, leads)
  where
    behind : (x : Op) (ops : List Op) → checked x ≡ Ok tt → IsFirstIllFormed ops e → IsFirstIllFormed (x ∷ ops) e
    behind x ops first w = record {
      before = x ∷ w.before;
      op = w.op;
      after = w.after;
      split = ap (λ os. x ∷ os) w.split;
      well_formed = (well_formed-iff x w.before).1 (first, w.well_formed);
      refused = w.refused;
    }

    here : (x : Op) (ops : List Op) → checked x ≡ Err e → IsFirstIllFormed (x ∷ ops) e
    here x ops h = record { before = []; op = x; after = ops; split = refl; well_formed = λ o m. absurd (Contains-nil o m); refused = h }

    tells : (ops : List Op) → all_checked ops ≡ Err e → IsFirstIllFormed ops e
    tells [] h = let clash : passed ≡ bad e = h in absurd (cc)
    tells (op ∷ ops) h = elim ((and_check-err (checked op) (all_checked ops) e).0 h) [
      | inl first ↦ here op ops first
      | inr later ↦ behind op ops later.0 (tells ops later.1)
    ]

    leads : IsFirstIllFormed ops e → all_checked ops ≡ Err e
    leads w =
        ap all_checked w.split ∙ all_checked_refused w.before w.after w.op e ((all_checked-iff w.before).1 w.well_formed) w.refused

-- its refusal is one of an operation
pub ill_formed_refusal : (ops : List Op) (e : Refusal) → all_checked ops ≡ Err e → IsOfOperation e
ill_formed_refusal ops e h = let w = (first_ill_formed-iff ops e).0 h in ((ill_formed-iff 0 nothing w.op e).1 w.refused).1

-- ---- the first conflict

-- there is none exactly where the list can be joined
pub no_conflict-iff : (c : Content) (ops : List Op) → (first_conflict c ops ≡ None) ↔ IsJoinable c ops
no_conflict-iff c [] = (λ h. joinable_nothing c, λ w. refl)
no_conflict-iff c (op ∷ ops) =
    elim (has_another c op) as (λ b. has_another c op ≡ b → (cond b (Some (id_of op)) (first_conflict (join c (single op)) ops) ≡ None) ↔ IsJoinable c (op ∷ ops)) [
      | true ↦ λ t. (
        λ h. absurd (none-some _ (sym h)),
        λ w. absurd (true≢false (sym t ∙ (no_other-iff c op).1 ((joinable-iff c op ops).0 w).0)),
      )
      | false ↦ λ f. (
        λ h. (joinable-iff c op ops).1 ((no_other-iff c op).0 f, (no_conflict-iff (join c (single op)) ops).0 h),
        λ w. (no_conflict-iff (join c (single op)) ops).1 ((joinable-iff c op ops).0 w).1,
      )
    ] refl

-- two lists in a row
pub first_conflict-append : (c : Content) (xs ys : List Op) → first_conflict c (xs ++ ys) ≡ option_or (first_conflict c xs) (first_conflict (join c (content_of xs)) ys)
first_conflict-append c [] ys = ap (λ d. first_conflict d ys) (sym (join_nothing c))
first_conflict-append c (x ∷ xs) ys = grind (arith, join_assoc, or_cond, first_conflict-append (join c (single x)) xs ys)

-- the first that conflicts is named
pub first_conflict_found : (c : Content) (xs ys : List Op) (op : Op) → first_conflict c xs ≡ None → has_another (join c (content_of xs)) op ≡ true → first_conflict c (xs ++ op ∷ ys) ≡ Some (id_of op)
first_conflict_found c xs ys op free another = grind (arith, first_conflict-append c xs (op ∷ ys))

pub first_conflict-iff : (c : Content) (ops : List Op) (id : Identifier) → (first_conflict c ops ≡ Some id) ↔ IsFirstConflict c ops id
first_conflict-iff c ops id = (tells c ops, leads)
  where
    here : (c : Content) (op : Op) (ops : List Op) → has_another c op ≡ true → id_of op ≡ id → IsFirstConflict c (op ∷ ops) id
    here c op ops t same = record {
      before = [];
      op = op;
      after = ops;
      split = refl;
      joinable = joinable_nothing c;
      another = subst (λ d. HasAnother d op) (sym (join_nothing c)) ((has_another-iff c op).0 t);
      named = sym same;
    }

    behind : (c : Content) (op : Op) (ops : List Op) → has_another c op ≡ false → IsFirstConflict (join c (single op)) ops id → IsFirstConflict c (op ∷ ops) id
    behind c op ops f w = record {
      before = op ∷ w.before;
      op = w.op;
      after = w.after;
      split = ap (λ os. op ∷ os) w.split;
      joinable = (joinable-iff c op w.before).1 ((no_other-iff c op).0 f, w.joinable);
      another = subst (λ d. HasAnother d w.op) (join_assoc c (single op) (content_of w.before)) w.another;
      named = w.named;
    }

    tells : (c : Content) (ops : List Op) → first_conflict c ops ≡ Some id → IsFirstConflict c ops id
    tells c [] h = absurd (none-some _ h)
    tells c (op ∷ ops) h =
        elim (has_another c op) as (λ b. has_another c op ≡ b → cond b (Some (id_of op)) (first_conflict (join c (single op)) ops) ≡ Some id → IsFirstConflict c (op ∷ ops) id) [
          | true ↦ λ t h. here c op ops t (same_Some _ _ h)
          | false ↦ λ f h. behind c op ops f (tells (join c (single op)) ops h)
        ] refl h

    leads : IsFirstConflict c ops id → first_conflict c ops ≡ Some id
    leads w =
        ap (first_conflict c) w.split
        ∙ first_conflict_found c w.before w.after w.op ((no_conflict-iff c w.before).1 w.joinable) ((has_another-iff (join c (content_of w.before)) w.op).1 w.another)
        ∙ ap Some (sym w.named)

-- ---- a conflict, or too many identifiers

pub union_taken-iff : (limit : ℕ) (o : Option Identifier) (c : Content) → (union_answer limit o c ≡ Ok tt) ↔ ((o ≡ None) × (finite_set.len (known_ids c) ≤ limit))
union_taken-iff limit o c = (λ h. grind (arith, nat_tests), λ h. grind (arith, nat_tests))

pub union_conflict-iff : (limit : ℕ) (o : Option Identifier) (c : Content) (id : Identifier) → (union_answer limit o c ≡ Err (Conflict id)) ↔ (o ≡ Some id)
union_conflict-iff limit o c id = (λ h. grind arith, λ h. grind arith)

pub union_full-iff : (limit : ℕ) (o : Option Identifier) (c : Content) → (union_answer limit o c ≡ Err Full) ↔ ((o ≡ None) × (limit < finite_set.len (known_ids c)))
union_full-iff limit o c = (λ h. grind (arith, nat_tests), λ h. grind (arith, nat_tests))

-- no other refusal is of a union
pub union_refusal : (limit : ℕ) (o : Option Identifier) (c : Content) (e : Refusal) → union_answer limit o c ≡ Err e → ((id : Identifier) × (e ≡ Conflict id)) ⊎ (e ≡ Full)
union_refusal limit o c e h = grind arith

-- ---- the answer to a list

of_one_or_other : (e : Refusal) → IsOfOperation e → ((id : Identifier) × (e ≡ Conflict id)) ⊎ (e ≡ Full) → ⊥
of_one_or_other e own of_union = grind arith

-- a refusal of the union comes where all is well-formed
past_checks : (limit : ℕ) (c : Content) (ops : List Op) (e : Refusal) → ((id : Identifier) × (e ≡ Conflict id)) ⊎ (e ≡ Full) → (list_answer limit c ops ≡ Err e) ↔ (AreWellFormed ops × (union_answer limit (first_conflict c ops) (join c (content_of ops)) ≡ Err e))
past_checks limit c ops e of_union = grind (arith, and_check-err, of_one_or_other, ill_formed_refusal, all_checked-iff)

pub list_taken-iff : (limit : ℕ) (c : Content) (ops : List Op) → (list_answer limit c ops ≡ Ok tt) ↔ (AreWellFormed ops × IsJoinable c ops × (finite_set.len (known_ids (join c (content_of ops))) ≤ limit))
list_taken-iff limit c ops = grind (arith, and_check-ok, union_taken-iff, all_checked-iff, no_conflict-iff)

pub list_ill_formed-iff : (limit : ℕ) (c : Content) (ops : List Op) (e : Refusal) → ((list_answer limit c ops ≡ Err e) × IsOfOperation e) ↔ IsFirstIllFormed ops e
list_ill_formed-iff limit c ops e = (
  λ (h, own). elim ((and_check-err (all_checked ops) (union_answer limit (first_conflict c ops) (join c (content_of ops))) e).0 h) [
    | inl first ↦ (first_ill_formed-iff ops e).0 first
    | inr later ↦ absurd (of_one_or_other e own (union_refusal limit (first_conflict c ops) (join c (content_of ops)) e later.1))
  ],
  λ w.
      let first : all_checked ops ≡ Err e = (first_ill_formed-iff ops e).1 w in (
        (and_check-err (all_checked ops) (union_answer limit (first_conflict c ops) (join c (content_of ops))) e).1 (inl first),
        ill_formed_refusal ops e first,
      ),
)

pub list_conflict-iff : (limit : ℕ) (c : Content) (ops : List Op) (id : Identifier) → (list_answer limit c ops ≡ Err (Conflict id)) ↔ (AreWellFormed ops × IsFirstConflict c ops id)
list_conflict-iff limit c ops id = (
  λ h.
      let s = (past_checks limit c ops (Conflict id) (inl (id, refl))).0 h in
      (s.0, (first_conflict-iff c ops id).0 ((union_conflict-iff limit (first_conflict c ops) (join c (content_of ops)) id).0 s.1)),
  λ (well, w). (past_checks limit c ops (Conflict id) (inl (id, refl))).1 (
    well,
    (union_conflict-iff limit (first_conflict c ops) (join c (content_of ops)) id).1 ((first_conflict-iff c ops id).1 w),
  ),
)

pub list_full-iff : (limit : ℕ) (c : Content) (ops : List Op) → (list_answer limit c ops ≡ Err Full) ↔ (AreWellFormed ops × IsJoinable c ops × (limit < finite_set.len (known_ids (join c (content_of ops)))))
list_full-iff limit c ops = (
  λ h.
      let s = (past_checks limit c ops Full (inr refl)).0 h in
      let u = (union_full-iff limit (first_conflict c ops) (join c (content_of ops))).0 s.1 in
      (s.0, (no_conflict-iff c ops).0 u.0, u.1),
  λ (well, joinable, more). (past_checks limit c ops Full (inr refl)).1 (
    well,
    (union_full-iff limit (first_conflict c ops) (join c (content_of ops))).1 ((no_conflict-iff c ops).1 joinable, more),
  ),
)

pub no_other_list_refusal : (limit : ℕ) (c : Content) (ops : List Op) (e : Refusal) → list_answer limit c ops ≡ Err e → IsAnswered e
no_other_list_refusal limit c ops e h = grind (arith, ill_formed_refusal ops e)

-- a list that is taken whole leads to the same as its operations one by one
pub list_one_by_one : (limit : ℕ) (c : Content) (ops : List Op) → list_answer limit c ops ≡ Ok tt → taken_one_by_one limit c ops ≡ Ok (join c (content_of ops))
list_one_by_one limit c ops h = grind (arith, list_taken-iff, takeable_is_taken)

-- operations that are taken one by one can be taken whole
pub one_by_one_list : (limit : ℕ) (c d : Content) (ops : List Op) → finite_set.len (known_ids c) ≤ limit → taken_one_by_one limit c ops ≡ Ok d → list_answer limit c ops ≡ Ok tt
one_by_one_list limit c d ops within h =
    let w : AreTaken c ops d = taken_list_is limit c ops d h in
    let agreed : IsAgreed ops = taken_list_agrees limit c ops d h in
    (list_taken-iff limit c ops).1 (
      w.well_formed,
      record {
        agreed = agreed;
        agree = λ id x y f g. same_Some x y (sym (w.grown.inserted id x f) ∙ w.held (Insert id y.parent y.ch) (content_inserted ops id y g));
      },
      subst (λ e. finite_set.len (known_ids e) ≤ limit) w.joined (taken_list_within limit c ops d within h),
    )

-- ---- a list in parts

pub joinable_append : (c : Content) (xs ys : List Op) → IsJoinable c (xs ++ ys) ↔ (IsJoinable c xs × IsJoinable (join c (content_of xs)) ys)
joinable_append c xs ys = (
  λ w.
      let none = sym (first_conflict-append c xs ys) ∙ (no_conflict-iff c (xs ++ ys)).1 w in
      ((no_conflict-iff c xs).0 (grind (arith, none)), (no_conflict-iff (join c (content_of xs)) ys).0 (grind (arith, none))),
  λ (first, second). (no_conflict-iff c (xs ++ ys)).0 (
      first_conflict-append c xs ys
      ∙ ap (λ o. option_or o (first_conflict (join c (content_of xs)) ys)) ((no_conflict-iff c xs).1 first)
      ∙ (no_conflict-iff (join c (content_of xs)) ys).1 second
      ),
)
