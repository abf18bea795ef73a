-- The operations of a list that are new where they are taken.
use Rattle.std.proofs.Common.{◌≡◌, ℕ, Bool, true, false, cond, List, [], ◌∷◌, ◌++◌, refl, sym, ap, ◌∙◌, subst, inl, inr, ◌⊎◌, true≢false, arith}
use Rattle.std.specs.Prelude.{Ok, Contains, ◌↔◌}
use Rattle.rga_ops.specs.Content.{Content, join, single, content_of, Holds}
use Rattle.rga_ops.specs.Answer.{answer}
use Rattle.rga_ops.specs.NewOperations.{holds, new_operations}
use Rattle.rga_ops.proofs.ContentLaws.{get-join, contains-join, join_assoc, join_nothing, within_join}
use Rattle.rga_ops.proofs.OperationLaws.{Contains-first, Contains-later, Contains-cases, Contains-nil, single_inserted, single_deleted}
use Rattle.rga_ops.proofs.AnswerLaws.{is_element-is, is_element-itself}
use Rattle.rga_ops.proofs.TakenLaws.{held_adds_nothing, held_stays}
use Rattle.rga_ops.specs.declared.op.Op.{Op}
use Rattle.rga_ops.specs.declared.refusal.Taken.TheVariants.{New, Known}

-- ---- whether an operation is held

pub holds-iff : (c : Content) (op : Op) → (holds c op ≡ true) ↔ Holds c op
holds-iff c op = (λ h. grind (arith, is_element-is), λ h. grind (arith, is_element-itself))

-- ---- those that are new

abbrev by_test : Content → Op → List Op → Bool → List Op
by_test c op ops b = cond b (new_operations c ops) (op ∷ new_operations (join c (single op)) ops)

-- what is held leaves the content, and what is new joins it
next : (c : Content) (op : Op) (ops : List Op) → Holds c op → join c (content_of ops) ≡ join c (content_of (op ∷ ops))
next c op ops h = ap (λ d. join d (content_of ops)) (sym (held_adds_nothing c op h)) ∙ join_assoc c (single op) (content_of ops)

pub content-new : (c : Content) (ops : List Op) → join c (content_of (new_operations c ops)) ≡ join c (content_of ops)
content-new c [] = refl
content-new c (op ∷ ops) = grind (arith, next, holds-iff, join_assoc, content-new c ops, content-new (join c (single op)) ops)

pub new_among : (c : Content) (ops : List Op) (op : Op) → Contains (new_operations c ops) op → Contains ops op
new_among c [] op = λ m. m
new_among c (x ∷ ops) op =
    elim (holds c x) as (λ b. Contains (by_test c x ops b) op → Contains (x ∷ ops) op) [
      | true ↦ λ m. Contains-later x op ops (new_among c ops op m)
      | false ↦ λ m. elim (Contains-cases x op (new_operations (join c (single x)) ops) m) [
        | inl same ↦ subst (Contains (x ∷ ops)) same (Contains-first x ops)
        | inr later ↦ Contains-later x op ops (new_among (join c (single x)) ops op later)
      ]
    ]

pub new_not_held : (c : Content) (ops : List Op) (op : Op) → Contains (new_operations c ops) op → ¬ (Holds c op)
new_not_held c [] op = λ m h. Contains-nil op m
new_not_held c (x ∷ ops) op =
    elim (holds c x) as (λ b. holds c x ≡ b → Contains (by_test c x ops b) op → ¬ (Holds c op)) [
      | true ↦ λ t m. new_not_held c ops op m
      | false ↦ λ f m h. elim (Contains-cases x op (new_operations (join c (single x)) ops) m) [
        | inl same ↦ true≢false (sym ((holds-iff c x).1 (subst (Holds c) (sym same) h)) ∙ f)
        | inr later ↦ new_not_held (join c (single x)) ops op later (held_stays c (join c (single x)) op (within_join c (single x)) h)
      ]
    ] refl

-- what is held once an operation is joined was held before, or is that operation
held_by_join : (c : Content) (x op : Op) → Holds (join c (single x)) op → Holds c op ⊎ (x ≡ op)
held_by_join c x op h = grind (arith, get-join, contains-join, single_inserted, single_deleted)

pub held_or_new : (c : Content) (ops : List Op) (op : Op) → Contains ops op → Holds c op ⊎ Contains (new_operations c ops) op
held_or_new c [] op m = absurd (Contains-nil op m)
held_or_new c (x ∷ ops) op m =
    elim (holds c x) as (λ b. holds c x ≡ b → Holds c op ⊎ Contains (by_test c x ops b) op) [
      | true ↦ λ t. elim (Contains-cases x op ops m) [
        | inl same ↦ inl (subst (Holds c) same ((holds-iff c x).0 t))
        | inr later ↦ held_or_new c ops op later
      ]
      | false ↦ λ f. elim (Contains-cases x op ops m) [
        | inl same ↦ inr (first same)
        | inr later ↦ elim (held_or_new (join c (single x)) ops op later) [
          | inl held ↦ elim (held_by_join c x op held) [
            | inl before ↦ inl before
            | inr same ↦ inr (first same)
          ]
          | inr new ↦ inr (Contains-later x op (new_operations (join c (single x)) ops) new)
        ]
      ]
    ] refl
  where
    first : x ≡ op → Contains (x ∷ new_operations (join c (single x)) ops) op
    first same = subst (Contains (x ∷ new_operations (join c (single x)) ops)) same (Contains-first x (new_operations (join c (single x)) ops))

pub new_in_parts : (c : Content) (xs ys : List Op) → new_operations c (xs ++ ys) ≡ new_operations c xs ++ new_operations (join c (content_of xs)) ys
new_in_parts c [] ys = ap (λ d. new_operations d ys) (sym (join_nothing c))
new_in_parts c (x ∷ xs) ys = grind (arith, next, holds-iff, join_assoc, new_in_parts c xs ys, new_in_parts (join c (single x)) xs ys)

-- ---- by what is answered

pub new_if_new : (limit : ℕ) (c : Content) (op : Op) → answer limit c op ≡ Ok New → new_operations c (op ∷ []) ≡ op ∷ []
new_if_new limit c op h = grind arith

pub none_if_known : (limit : ℕ) (c : Content) (op : Op) → answer limit c op ≡ Ok Known → new_operations c (op ∷ []) ≡ []
none_if_known limit c op h = grind arith
