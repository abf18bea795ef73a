-- Lists of elements that are apart from one another.
use Rattle.rga_doc.proofs.Prelude.{◌≡◌, ℕ, suc, true, false, not, ◌||◌, List, [], ◌∷◌, ◌++◌, take, refl, ap, sym, ◌∙◌, true≢false, list_any, AllByRecursion, Identifier, is_id, without, is, same_id, is_swap, is_id-same, all_append, all_map}
use Rattle.rga_doc.proofs.Prelude.{distinct_filter, not-true, distinct_elements}
use Rattle.std.specs.List.{IsDistinct}
use Rattle.rga_doc.proofs.RevertLaws.{all_that_pass}
use Rattle.rga_doc.proofs.UndoLists.{all_take}

abbrev pub Apart : List Identifier → Type 0
Apart [] = Unit {0}
Apart (x ∷ xs) = AllByRecursion (λ y. is x y ≡ false) xs × Apart xs

pub apart_if_distinct : (xs : List Identifier) → IsDistinct is xs → Apart xs
unfolding IsDistinct
apart_if_distinct [] h = tt
apart_if_distinct (x ∷ xs) h = (h.0, apart_if_distinct xs h.1)

right : (P : Identifier → Type 0) (xs ys : List Identifier) → AllByRecursion P (xs ++ ys) → AllByRecursion P ys
right P [] ys h = h
right P (x ∷ xs) ys h = right P xs ys h.1

pub apart_right : (xs ys : List Identifier) → Apart (xs ++ ys) → Apart ys
apart_right [] ys h = h
apart_right (x ∷ xs) ys h = apart_right xs ys h.1

pub apart_take : (n : ℕ) (xs : List Identifier) → Apart xs → Apart (take n xs)
apart_take (suc n) (x ∷ xs) h = (all_take (λ y. is x y ≡ false) n xs h.0, apart_take n xs h.1)
apart_take n xs h = tt

-- what is in the first part is apart from the second one
pub apart_parts : (xs ys : List Identifier) (y : Identifier) → Apart (xs ++ ys) → list_any (is y) xs ≡ true → AllByRecursion (λ z. is z y ≡ false) ys
apart_parts [] ys y h m = absurd (true≢false (sym m))
apart_parts (x ∷ xs) ys y h m = elim (is y x) as (λ b. is y x ≡ b → (b || list_any (is y) xs) ≡ true → AllByRecursion (λ z. is z y ≡ false) ys) [
  | true ↦ λ t m. all_map (λ z. is x z ≡ false) (λ z. is z y ≡ false) (λ z f. is_swap z y ∙ ap (λ w. is w z) (same_id y x t) ∙ f) ys (right (λ z. is x z ≡ false) xs ys h.0)
  | false ↦ λ f m. apart_parts xs ys y h.1 m
] refl m

-- two parts apart from one another, in a row
pub row_apart : (xs ys : List Identifier) → Apart xs → Apart ys → AllByRecursion (λ y. AllByRecursion (λ z. is z y ≡ false) xs) ys → Apart (xs ++ ys)
row_apart [] ys a b h = b
row_apart (x ∷ xs) ys a b h = (
  all_append (λ y. is x y ≡ false) xs ys a.0 (heads ys h),
  row_apart xs ys a.1 b (tails ys h),
)
  where
    heads : (ys : List Identifier) → AllByRecursion (λ y. AllByRecursion (λ z. is z y ≡ false) (x ∷ xs)) ys → AllByRecursion (λ y. is x y ≡ false) ys
    heads [] h = tt
    heads (y ∷ ys) h = ((h.0).0, heads ys h.1)

    tails : (ys : List Identifier) → AllByRecursion (λ y. AllByRecursion (λ z. is z y ≡ false) (x ∷ xs)) ys → AllByRecursion (λ y. AllByRecursion (λ z. is z y ≡ false) xs) ys
    tails [] h = tt
    tails (y ∷ ys) h = ((h.0).1, tails ys h.1)

-- what stands once in a list is apart

others : (id : Identifier) (ids : List Identifier) → AllByRecursion (λ y. is id y ≡ false) (without id ids)
others id ids = all_map (λ y. not (is_id y id) ≡ true) (λ y. is id y ≡ false) (λ y h. sym (is_id-same y id) ∙ not-true (is_id y id) h) (without id ids) (all_that_pass (λ y. not (is_id y id)) ids)

distinct : (ids : List Identifier) → IsDistinct is (distinct_elements ids)
unfolding IsDistinct
distinct [] = tt
distinct (id ∷ ids) = (others id (distinct_elements ids), distinct_filter (λ y. not (is_id y id)) (distinct_elements ids) (distinct ids))

pub apart_if_once : (ids : List Identifier) → Apart (distinct_elements ids)
apart_if_once ids = apart_if_distinct (distinct_elements ids) (distinct ids)
