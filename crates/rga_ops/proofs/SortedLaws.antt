-- Entries in the order of their keys: each is found under its key, and no key stands twice.
use Rattle.std.proofs.Common.{◌≡◌, Bool, false, cond, ◌&&◌, T, List, [], ◌∷◌, map, ap, ◌∙◌, arith}
use Rattle.std.specs.Prelude.{Some}
use Rattle.std.specs.Cmp.{IsTotalOrder, tied_itself, eq_by_cmp_equiv}
use Rattle.std.specs.Ordering.{eq_by_cmp, is_eq, is_lt, ordering_reverse}
use Rattle.std.specs.List.{AllByRecursion, IsDistinct}
use Rattle.std.specs.declared.cmp.Ordering.{Ordering}
use Rattle.std.specs.declared.cmp.Ordering.TheVariants.{Less}
use Rattle.std.specs.FinMap.{find, is_sorted}
use Rattle.std.specs.FinMap.Entries.{below_all}

pub all_zip : {A : Type 0} (P Q S : A → Type 0) → ((x : A) → P x → Q x → S x) → (xs : List A) → AllByRecursion P xs → AllByRecursion Q xs → AllByRecursion S xs
all_zip P Q S f [] p q = tt
all_zip P Q S f (x ∷ xs) p q = (f x p.0 q.0, all_zip P Q S f xs p.1 q.1)

pub both_so : (a b : Bool) → T (a && b) → T a × T b
both_so a b h = grind arith

pub both_hold : (a b : Bool) → T a → T b → T (a && b)
both_hold a b p q = grind arith

pub less_of : (o : Ordering) → T (is_lt o) → o ≡ Less
less_of o h = grind arith

later_apart : (o : Ordering) → T (is_lt o) → is_eq (ordering_reverse o) ≡ false
later_apart o h = grind arith

module _ {K A : Type 0} (cmp : K → K → Ordering) (total : IsTotalOrder cmp) where
  -- no entry behind a key has it
  apart : (k : K) (es : List (K × A)) → T (below_all cmp k es) → AllByRecursion (λ (e : K × A). eq_by_cmp cmp e.0 k ≡ false) es
  apart k [] h = tt
  apart k (e ∷ es) h =
      let s : T (is_lt (cmp k e.0)) × T (below_all cmp k es) = both_so (is_lt (cmp k e.0)) (below_all cmp k es) h in
      (ap is_eq (total.antisymm e.0 k) ∙ later_apart (cmp k e.0) s.0, apart k es s.1)

  -- each entry of a sorted list is the one that is found under its key
  pub each_found : (es : List (K × A)) → T (is_sorted cmp es) → AllByRecursion (λ (e : K × A). find cmp e.0 es ≡ Some e.1) es
  each_found [] h = tt
  each_found (k ∷ es) h =
      let s : T (below_all cmp k.0 es) × T (is_sorted cmp es) = both_so (below_all cmp k.0 es) (is_sorted cmp es) h in (
        ap (λ r. cond (is_eq r) (Some k.1) (find cmp k.0 es)) (tied_itself total k.0),
        all_zip (λ (e : K × A). find cmp e.0 es ≡ Some e.1) (λ (e : K × A). eq_by_cmp cmp e.0 k.0 ≡ false) (λ (e : K × A). find cmp e.0 (k ∷ es) ≡ Some e.1)
            (λ e f a. ap (λ b. cond b (Some k.1) (find cmp e.0 es)) a ∙ f) es (each_found es s.1) (apart k.0 es s.0),
      )

  keys_apart : (k : K) (es : List (K × A)) → AllByRecursion (λ (e : K × A). eq_by_cmp cmp e.0 k ≡ false) es → AllByRecursion (λ y. eq_by_cmp cmp k y ≡ false) (map (λ e. e.0) es)
  keys_apart k [] h = tt
  keys_apart k (e ∷ es) h = ((eq_by_cmp_equiv total).symm k e.0 ∙ h.0, keys_apart k es h.1)

  -- so the keys are distinct
  pub distinct_keys : (es : List (K × A)) → T (is_sorted cmp es) → IsDistinct (eq_by_cmp cmp) (map (λ e. e.0) es)
  unfolding IsDistinct
  distinct_keys [] h = tt
  distinct_keys (e ∷ es) h =
      let s : T (below_all cmp e.0 es) × T (is_sorted cmp es) = both_so (below_all cmp e.0 es) (is_sorted cmp es) h in
      (keys_apart e.0 es (apart e.0 es s.0), distinct_keys es s.1)
