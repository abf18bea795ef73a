-- Rising child lists.
use Rattle.std.proofs.Common.{◌≡◌, ℕ, ◌≤◌, ◌<◌, suc, zero, Bool, true, false, not, ◌&&◌, ◌||◌, List, [], ◌∷◌, length, slice_index_or, sym, ap, ◌∙◌, arith}
use Rattle.std.specs.Prelude.{insert}
use Rattle.std.specs.Ordering.{eq_by_cmp, ordering_index, ordering_reverse}
use Rattle.std.specs.List.{list_any, AllByRecursion}
use Rattle.std.specs.declared.cmp.Ordering.{Ordering}
use Rattle.std.specs.declared.cmp.Ordering.TheVariants.{Less, Equal, Greater}
use Rattle.rga_ops.specs.Identifier.{Identifier, id_cmp, is_id}
use Rattle.std.specs.List.Sorted.{IsStrictlySortedBy}
use Rattle.rga_ops.proofs.IdentifierLaws.{ids_total, ids_exact, is, is_itself, is_swap, is_id-same, is_id-is}
use Rattle.std.proofs.Math.Bool.{and_comm, or_assoc, or_comm}
use Rattle.std.proofs.lemmas.Map.Views.{any-filter_same}
use Rattle.rga_store.specs.Rising.{IsRising}
use Rattle.rga_tree.specs.Children.{has_child, others_than}

-- a child is there as a member is
pub has-any : (ks : List Identifier) (q : Identifier) → has_child ks q ≡ list_any (is q) ks
has-any ks q = ap (λ (p : Identifier → Bool). list_any p ks) (λ k x. is_id-same x q k)

pub has-insert : (id k : Identifier) (xs : List Identifier) (i : ℕ) → has_child (insert xs i id) k ≡ (has_child xs k || is_id id k)
has-insert id k [] zero = or_comm (is_id id k) false
has-insert id k [] (suc i) = or_comm (is_id id k) false
has-insert id k (x ∷ xs) zero = or_comm (is_id id k) (has_child (x ∷ xs) k)
has-insert id k (x ∷ xs) (suc i) = ap (λ b. is_id x k || b) (has-insert id k xs i) ∙ sym (or_assoc (is_id x k) (has_child xs k) (is_id id k))

all-insert : (P : Identifier → Type 0) (xs : List Identifier) (i : ℕ) (id : Identifier) → P id → AllByRecursion P xs → AllByRecursion P (insert xs i id)
all-insert P [] zero id p h = (p, tt)
all-insert P [] (suc i) id p h = (p, tt)
all-insert P (x ∷ xs) zero id p h = (p, h)
all-insert P (x ∷ xs) (suc i) id p h = (h.0, all-insert P xs i id p h.1)

all_at : (P : Identifier → Type 0) (xs : List Identifier) → AllByRecursion P xs → (k : ℕ) (d : Identifier) → k < length xs → P (slice_index_or xs k d)
all_at P [] h k d l = absurd (omega arith)
all_at P (x ∷ xs) h zero d l = h.0
all_at P (x ∷ xs) h (suc k) d l = all_at P xs h.1 k d (omega arith)

all_by_index : (P : Identifier → Type 0) (xs : List Identifier) → ((k : ℕ) (d : Identifier) → k < length xs → P (slice_index_or xs k d)) → AllByRecursion P xs
all_by_index P [] h = tt
all_by_index P (x ∷ xs) h = (h zero x (omega arith), all_by_index P xs (λ k d l. h (suc k) d (omega arith)))

flip : (a b : Identifier) → id_cmp a b ≡ Greater → id_cmp b a ≡ Less
flip a b h = ids_total.antisymm b a ∙ ap ordering_reverse h

pub rising-insert : (id : Identifier) (xs : List Identifier) (i : ℕ) → i ≤ length xs → IsRising xs → ((k : ℕ) (d : Identifier) → 0 ≤ k → k < i → id_cmp (slice_index_or xs k d) id ≡ Less) → ((k : ℕ) (d : Identifier) → i ≤ k → k < length xs → id_cmp (slice_index_or xs k d) id ≡ Greater) → IsRising (insert xs i id)
unfolding IsStrictlySortedBy
rising-insert id [] zero w up low high = (tt, tt)
rising-insert id [] (suc i) w up low high = absurd (omega arith)
rising-insert id (x ∷ xs) zero w up low high =
    (all_by_index (λ y. id_cmp id y ≡ Less) (x ∷ xs) (λ k d l. flip (slice_index_or (x ∷ xs) k d) id (high k d (omega arith) l)), up)
rising-insert id (x ∷ xs) (suc i) w up low high = (
  all-insert (λ y. id_cmp x y ≡ Less) xs i id (low zero x (omega arith) (omega arith)) up.0,
  rising-insert id xs i (omega arith) up.1 (λ k d a b. low (suc k) d (omega arith) (omega arith)) (λ k d a b. high (suc k) d (omega arith) (omega arith)),
)

at_most : (o : Ordering) → ordering_index o ≤ 2
at_most o = grind arith

later : (id x y : Identifier) → id_cmp x y ≡ Less → ordering_index (id_cmp x id) ≤ ordering_index (id_cmp y id)
later id x y h = grind (arith, ids_total.trans x y id h, ids_exact y id, at_most (id_cmp x id), h)

-- how the members compare never falls
pub rising-compares : (id : Identifier) (xs : List Identifier) → IsRising xs → (i j : ℕ) (d : Identifier) → i ≤ j → j < length xs → ordering_index (id_cmp (slice_index_or xs i d) id) ≤ ordering_index (id_cmp (slice_index_or xs j d) id)
unfolding IsStrictlySortedBy
rising-compares id [] up i j d a b = absurd (omega arith)
rising-compares id (x ∷ xs) up zero zero d a b = omega arith
rising-compares id (x ∷ xs) up zero (suc j) d a b = later id x (slice_index_or xs j d) (all_at (λ y. id_cmp x y ≡ Less) xs up.0 j d (omega arith))
rising-compares id (x ∷ xs) up (suc i) zero d a b = absurd (omega arith)
rising-compares id (x ∷ xs) up (suc i) (suc j) d a b = rising-compares id xs up.1 i j d (omega arith) (omega arith)

pub found_has : (id : Identifier) (xs : List Identifier) (i : ℕ) (d : Identifier) → i < length xs → id_cmp (slice_index_or xs i d) id ≡ Equal → has_child xs id ≡ true
found_has id [] i d l e = absurd (omega arith)
found_has id (x ∷ xs) zero d l e = ap (λ b. b || has_child xs id) (is_id-same x id ∙ ap (eq_by_cmp id_cmp id) (ids_exact x id e) ∙ is_itself id)
found_has id (x ∷ xs) (suc i) d l e = ap (λ b. is_id x id || b) (found_has id xs i d (omega arith) e) ∙ or_comm (is_id x id) true

-- ---- a child that leaves

pub has-others : (id k : Identifier) (xs : List Identifier) → has_child (others_than id xs) k ≡ (has_child xs k && not (is_id id k))
has-others id k xs =
    any-filter_same (λ x. is_id x k) (λ x. not (is_id x id)) (not (is_id id k)) (λ x t. ap not (ap (λ y. is_id y id) (is_id-is x k t) ∙ is_id-same k id ∙ is_swap id k ∙ sym (is_id-same id k ∙ is_swap k id ∙ is_swap id k))) xs
    ∙ and_comm (not (is_id id k)) (has_child xs k)
