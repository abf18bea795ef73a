-- Lists of identifiers with one put in or left out, as splices at an index.
use Rattle.std.proofs.Common.{◌≡◌, ℕ, ◌+◌, suc, Bool, true, false, cond, not, List, [], ◌∷◌, ◌++◌, filter, position, take, drop, refl, sym, ap, ◌∙◌, arith}
use Rattle.std.specs.Prelude.{Some}
use Rattle.std.specs.List.{list_any, AllByRecursion, IsDistinct, slice_get}
use Rattle.std.proofs.lemmas.Option.{none-some}
use Rattle.rga_ops.specs.Identifier.{Identifier, is_id}
use Rattle.rga_ops.specs.Placement.{change_after, without}
use Rattle.rga_ops.proofs.IdentifierLaws.{is, is_itself, is_id-same, is_id-is}
use Rattle.rga_ops.proofs.VisibleLaws.{position_here, position_later}
use Rattle.std.proofs.lemmas.Map.Keys.{any_passes_from_place}

-- what stands at an index is in the list
pub member_at : (xs : List Identifier) (i : ℕ) (id : Identifier) → slice_get xs i ≡ Some id → list_any (is id) xs ≡ true
member_at xs i id h = any_passes_from_place (is id) xs i id h (is_itself id)

-- where the first is another the index is one more than that in the rest
later_index : (p : Identifier → Bool) (x : Identifier) (xs : List Identifier) (i : ℕ) → p x ≡ false → position p (x ∷ xs) ≡ Some i → (j : ℕ) × ((position p xs ≡ Some j) × (i ≡ suc j))
later_index p x xs i other h = grind (arith, position_later p x xs other)

first_index : (p : Identifier → Bool) (x : Identifier) (xs : List Identifier) (i : ℕ) → p x ≡ true → position p (x ∷ xs) ≡ Some i → i ≡ 0
first_index p x xs i here h = grind (arith, position_here p x xs here)

one_more : (i : ℕ) → i + 1 ≡ suc i
one_more i = omega arith

-- a change behind an identifier, at the index of that
pub change_after-at : (id : Identifier) (change : List Identifier → List Identifier) (xs : List Identifier) (i : ℕ) → position (λ x. is_id x id) xs ≡ Some i → change_after id change xs ≡ take (i + 1) xs ++ change (drop (i + 1) xs)
change_after-at id change xs i h = at_suc xs i h ∙ ap (λ n. take n xs ++ change (drop n xs)) (sym (one_more i))
  where
    at_suc : (xs : List Identifier) (i : ℕ) → position (λ x. is_id x id) xs ≡ Some i → change_after id change xs ≡ take (suc i) xs ++ change (drop (suc i) xs)
    at_suc [] i h = absurd (none-some _ h)
    at_suc (x ∷ xs) i h =
        elim (is_id x id) as (λ b. is_id x id ≡ b → cond b (x ∷ change xs) (x ∷ change_after id change xs) ≡ take (suc i) (x ∷ xs) ++ change (drop (suc i) (x ∷ xs))) [
          | true ↦ λ t. ap (λ n. take (suc n) (x ∷ xs) ++ change (drop (suc n) (x ∷ xs))) (sym (first_index (λ y. is_id y id) x xs i t h))
          | false ↦ λ f.
              let later = later_index (λ y. is_id y id) x xs i f h in
              ap (λ r. x ∷ r) (at_suc xs later.0 later.1.0) ∙ ap (λ n. take (suc n) (x ∷ xs) ++ change (drop (suc n) (x ∷ xs))) (sym later.1.1)
        ] refl

-- a filter that keeps both, the identifier and what is put behind it
pub filter-put_after : (p : Identifier → Bool) (id new : Identifier) (xs : List Identifier) → p id ≡ true → p new ≡ true → filter p (change_after id (λ ys. new ∷ ys) xs) ≡ change_after id (λ ys. new ∷ ys) (filter p xs)
filter-put_after p id new [] keeps keeps_new = refl
filter-put_after p id new (x ∷ xs) keeps keeps_new = grind (arith, filter-put_after p id new xs keeps keeps_new, is_id-is x id, keeps, keeps_new)

without-absent : (id x : Identifier) (xs : List Identifier) → is_id x id ≡ true → AllByRecursion (λ y. is x y ≡ false) xs → without id xs ≡ xs
without-absent id x [] same h = refl
without-absent id x (y ∷ ys) same h = grind (arith, without-absent id x ys same h.1, h.0, is_id-same y id, is_id-is x id same)

-- an identifier that stands in the list once is left out at its index
pub without-at : (id : Identifier) (xs : List Identifier) (i : ℕ) → IsDistinct is xs → position (λ x. is_id x id) xs ≡ Some i → without id xs ≡ take i xs ++ drop (i + 1) xs
unfolding IsDistinct
without-at id xs i distinct h = at_suc xs i distinct h ∙ ap (λ n. take i xs ++ drop n xs) (sym (one_more i))
  where
    at_suc : (xs : List Identifier) (i : ℕ) → IsDistinct is xs → position (λ x. is_id x id) xs ≡ Some i → without id xs ≡ take i xs ++ drop (suc i) xs
    at_suc [] i distinct h = absurd (none-some _ h)
    at_suc (x ∷ xs) i distinct h =
        elim (is_id x id) as (λ b. is_id x id ≡ b → cond (not b) (x ∷ without id xs) (without id xs) ≡ take i (x ∷ xs) ++ drop (suc i) (x ∷ xs)) [
          | true ↦ λ t. without-absent id x xs t distinct.0 ∙ ap (λ n. take n (x ∷ xs) ++ drop (suc n) (x ∷ xs)) (sym (first_index (λ y. is_id y id) x xs i t h))
          | false ↦ λ f.
              let later = later_index (λ y. is_id y id) x xs i f h in
              ap (λ r. x ∷ r) (at_suc xs later.0 distinct.1 later.1.0) ∙ ap (λ n. take n (x ∷ xs) ++ drop (suc n) (x ∷ xs)) (sym later.1.1)
        ] refl
