-- The lines of a text, and those who wrote in them.
use Rattle.std.proofs.Common.{◌≡◌, ◌≢◌, ℕ, ◌≤◌, Bool, ◌==◌, ◌||◌, inl, inr, List, [], ◌∷◌, ◌++◌, map, take, drop, length, refl, sym, ap, ◌∙◌, arith, append-nil}
use Rattle.std.specs.Prelude.{Some}
use Rattle.std.specs.List.{flat_map, join_with_byte, list_any, slice_get}
use Rattle.std.specs.Ordering.{nat_cmp}
use Rattle.std.specs.BTreeSet.{insert_key}
use Rattle.std.proofs.lemmas.Bool.Decides.{nat_tests}
use Rattle.std.proofs.Math.Bool.{or-false}
use Rattle.std.proofs.lemmas.Bool.{cases_Bool}
use Rattle.std.proofs.lemmas.Option.{none-some}
use Rattle.mgr_show.specs.Authors.{Authored, before_lines, authored_lines, length_of_line, and_writers, writers}
use Rattle.mgr_show.specs.Meant.{AreLines, IsRising}
use Rattle.mgr_show.proofs.AuthorLaws.{one_plus}

-- ---- commas between

pub with_commas : {A : Type 0} (f : A → List ℕ) (x : A) (xs : List A) → join_with_byte 44 (map f (x ∷ xs)) ≡ f x ++ flat_map (λ y. 44 ∷ f y) xs
with_commas f x [] = sym (append-nil (f x))
with_commas f x (y ∷ ys) = ap (λ r. f x ++ 44 ∷ r) (with_commas f y ys)

-- ---- lines

peel_line : (x : Authored) (xs : List Authored) → authored_lines (x ∷ xs) ≡ take (length_of_line (x ∷ xs)) (x ∷ xs) ∷ authored_lines (drop (length_of_line (x ∷ xs)) (x ∷ xs))
peel_line x [] = grind arith
peel_line x (y ∷ ys) = elim (cases_Bool (x.1 == 10)) [
  | inl ends ↦ rw ends (grind (arith, peel_line y ys))
  | inr on ↦ rw (on, one_plus (length_of_line (y ∷ ys))) (grind (arith, peel_line y ys))
]

-- what is made of the lines: the first one, and then those of the characters that are left
pub first_line : (f : List Authored → List ℕ) (xs : List Authored) (x : Authored) (n : ℕ) → Some x ≡ slice_get xs 0 → n ≡ length_of_line xs → f (take n xs) ++ flat_map f (authored_lines (drop n xs)) ≡ flat_map f (authored_lines xs)
first_line f [] x n first is = absurd (none-some _ (sym first))
first_line f (y ∷ ys) x n first is = grind (arith, is, peel_line y ys)

pub line_within : (xs : List Authored) → length_of_line xs ≤ length xs
line_within [] = omega arith
line_within (x ∷ xs) = grind (arith, line_within xs)

-- ---- they are lines

abbrev all_of : List (List Authored) → List Authored
all_of ls = flat_map (λ l. l) ls

before_all : (x : Authored) (ls : List (List Authored)) → all_of (before_lines x ls) ≡ x ∷ all_of ls
before_all x [] = refl
before_all x (l ∷ ls) = grind arith

pub all_lines : (xs : List Authored) → all_of (authored_lines xs) ≡ xs
all_lines [] = refl
all_lines (x ∷ xs) = before_all x (authored_lines xs) ∙ ap (λ l. x ∷ l) (all_lines xs)

longer : (x : Authored) (l : List Authored) (ls : List (List Authored)) → x.1 ≢ 10 → AreLines (l ∷ ls) → AreLines ((x ∷ l) ∷ ls)
longer x l ls n h = grind (arith, n, h)

before_are : (x : Authored) (ls : List (List Authored)) → AreLines ls → AreLines (before_lines x ls)
before_are x [] h = grind (arith, nat_tests)
before_are x (l ∷ ls) h = grind (arith, nat_tests, longer, h)

pub are_lines : (xs : List Authored) → AreLines (authored_lines xs)
are_lines [] = tt
are_lines (x ∷ xs) = before_are x (authored_lines xs) (are_lines xs)

-- ---- who wrote in them

abbrev has : ℕ → List ℕ → Bool
has n ns = list_any (λ m. m == n) ns

has_inserted : (n k : ℕ) (ns : List ℕ) → has n (insert_key nat_cmp ns k) ≡ ((k == n) || has n ns)
has_inserted n k [] = refl
has_inserted n k (x ∷ ns) = grind (arith, nat_tests, has_inserted n k ns)

has_writers : (n : ℕ) (ns : List ℕ) (xs : List Authored) → has n (and_writers ns xs) ≡ (list_any (λ (x : Authored). x.0 == n) xs || has n ns)
has_writers n ns [] = refl
has_writers n ns (x ∷ xs) = grind (arith, has_writers n (insert_key nat_cmp ns x.0) xs, has_inserted n x.0 ns)

pub are_writers : (xs : List Authored) (n : ℕ) → has n (writers xs) ≡ list_any (λ (x : Authored). x.0 == n) xs
are_writers xs n = has_writers n [] xs ∙ or-false (list_any (λ (x : Authored). x.0 == n) xs)

pub inserted_rises : (k : ℕ) (ns : List ℕ) → IsRising ns → IsRising (insert_key nat_cmp ns k)
inserted_rises k [] h = tt
inserted_rises k (x ∷ []) h = grind (arith, nat_tests)
inserted_rises k (x ∷ y ∷ ns) h = grind (arith, nat_tests, h, inserted_rises k (y ∷ ns) h.1)

and_rise : (ns : List ℕ) (xs : List Authored) → IsRising ns → IsRising (and_writers ns xs)
and_rise ns [] h = h
and_rise ns (x ∷ xs) h = and_rise (insert_key nat_cmp ns x.0) xs (inserted_rises x.0 ns h)

pub writers_rise : (xs : List Authored) → IsRising (writers xs)
writers_rise xs = and_rise [] xs tt
