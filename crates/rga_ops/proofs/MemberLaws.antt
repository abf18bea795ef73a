-- Members of a list: what holds of each of them, and which of them a filter keeps.
use Rattle.std.proofs.Common.{arith, ◌≡◌, Bool, true, false, cond, ◌||◌, List, [], ◌∷◌, ◌++◌, filter, refl, sym, subst, true≢false}
use Rattle.std.specs.List.{list_any, AllByRecursion, IsDistinct}
use Rattle.std.proofs.lemmas.Bool.{or_left, or_right, or_from}
use Rattle.rga_ops.specs.Identifier.{Identifier}
use Rattle.rga_ops.proofs.IdentifierLaws.{is, is_itself, same_id}

pub all_map : {A : Type 0} (P Q : A → Type 0) → ((x : A) → P x → Q x) → (xs : List A) → AllByRecursion P xs → AllByRecursion Q xs
all_map P Q f [] h = tt
all_map P Q f (x ∷ xs) h = (f x h.0, all_map P Q f xs h.1)

pub all_append : {A : Type 0} (P : A → Type 0) (xs ys : List A) → AllByRecursion P xs → AllByRecursion P ys → AllByRecursion P (xs ++ ys)
all_append P [] ys a b = b
all_append P (x ∷ xs) ys a b = (a.0, all_append P xs ys a.1 b)

pub all_filter : {A : Type 0} (P : A → Type 0) (p : A → Bool) (xs : List A) → AllByRecursion P xs → AllByRecursion P (filter p xs)
all_filter P p [] h = tt
all_filter P p (x ∷ xs) h = grind (arith, all_filter P p xs h.1)

pub all_members : (P : Identifier → Type 0) (xs : List Identifier) → ((q : Identifier) → list_any (is q) xs ≡ true → P q) → AllByRecursion P xs
all_members P [] h = tt
all_members P (x ∷ xs) h = grind (arith, or_left, is, is_itself, or_right, all_members P xs (λ q m. h q (or_right (is q x) (list_any (is q) xs) m)))

-- what is true of all is true of one of them
pub of_member : (P : Identifier → Type 0) (xs : List Identifier) (q : Identifier) → AllByRecursion P xs → list_any (is q) xs ≡ true → P q
of_member P [] q h m = absurd (true≢false (sym m))
of_member P (x ∷ xs) q h m = elim (is q x) as (λ b. is q x ≡ b → (b || list_any (is q) xs) ≡ true → P q) [
  | true ↦ λ t m. subst P (sym (same_id q x t)) h.0
  | false ↦ λ f m. of_member P xs q h.1 m
] refl m

-- tests that agree on each member leave the same
pub filter_alike : {A : Type 0} (p q : A → Bool) (xs : List A) → AllByRecursion (λ x. p x ≡ q x) xs → filter p xs ≡ filter q xs
filter_alike p q [] h = refl
filter_alike p q (x ∷ xs) h = λ k. cond (h.0 k) (x ∷ filter_alike p q xs h.1 k) (filter_alike p q xs h.1 k)

-- what differs from each member is none of them
pub none_among : (k : Identifier) (ks : List Identifier) → AllByRecursion (λ y. is k y ≡ false) ks → list_any (is k) ks ≡ false
none_among k [] h = refl
none_among k (x ∷ ks) h = or_from (is k x) (list_any (is k) ks) h.0 (none_among k ks h.1)

pub distinct_filter : (p : Identifier → Bool) (xs : List Identifier) → IsDistinct is xs → IsDistinct is (filter p xs)
unfolding IsDistinct
distinct_filter p [] h = tt
distinct_filter p (x ∷ xs) h = grind (arith, is, all_filter, distinct_filter p xs h.1)
