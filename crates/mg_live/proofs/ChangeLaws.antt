-- What two texts have in common, and the change that makes one the other.
use Rattle.std.proofs.Common.{◌≡◌, ◌≤◌, ◌+◌, ◌-◌, ℕ, suc, Bool, true, false, List, [], ◌∷◌, ◌++◌, length, take, drop, reverse, nat_eq, if◌then◌else◌, arith, refl, ap, sym, subst, ◌∙◌, ne_eqb, ◌≢◌, ◌<◌, get_or, zero}
use Rattle.std.specs.Prelude.{Option, Some, None, slice_range}
use Rattle.std.proofs.Math.Seq.{drop-append_seam}
use Rattle.std.proofs.lemmas.Bool.{eq-eqb, eqb-true}
use Rattle.std.proofs.lemmas.List.{append_assoc, reverse-reverse, reverse-append, length-reverse, length-drop, length-take, take-append-drop, drop-drop, nil_from_length, drop_more, drop_all, get_or-reverse, take_all}
use Rattle.std.proofs.lemmas.List.Folds.{drop_split}
use Rattle.rga_ops.specs.Splice.{Splice, spliced}
use Rattle.rga_exchange.specs.Counting.{one_more}
use Rattle.mg_live.specs.Changes.{Changes, common_front, common_end, splice_between, change_between, noted}

-- ---- what two texts have in common

take_step : (b : Bool) (n x y : ℕ) (xs ys : List ℕ) → (b ≡ true → x ≡ y) → take n xs ≡ take n ys
    → take (if b then suc n else 0) (x ∷ xs) ≡ take (if b then suc n else 0) (y ∷ ys)
take_step true n x y xs ys alike rest = λ k. alike refl k ∷ rest k
take_step false n x y xs ys alike rest = refl

pub front_is_same : (xs ys : List ℕ) → take (common_front xs ys) xs ≡ take (common_front xs ys) ys
front_is_same [] [] = refl
front_is_same [] (y ∷ ys) = refl
front_is_same (x ∷ xs) [] = refl
front_is_same (x ∷ xs) (y ∷ ys) = take_step (nat_eq x y) (common_front xs ys) x y xs ys (eqb-true x y) (front_is_same xs ys)

bound_step : (b : Bool) (n m : ℕ) → n ≤ m → (if b then suc n else 0) ≤ m + 1
bound_step b n m within = grind arith

length_more : (x : ℕ) (xs : List ℕ) → length (x ∷ xs) ≡ length xs + 1
length_more x xs = omega arith

pub front_in_old : (xs ys : List ℕ) → common_front xs ys ≤ length xs
front_in_old [] ys = omega arith
front_in_old (x ∷ xs) [] = omega arith
front_in_old (x ∷ xs) (y ∷ ys) =
    let step = bound_step (nat_eq x y) (common_front xs ys) (length xs) (front_in_old xs ys) in
    omega (arith, step, length_more x xs)

pub front_in_new : (xs ys : List ℕ) → common_front xs ys ≤ length ys
front_in_new [] ys = omega arith
front_in_new (x ∷ xs) [] = omega arith
front_in_new (x ∷ xs) (y ∷ ys) =
    let step = bound_step (nat_eq x y) (common_front xs ys) (length ys) (front_in_new xs ys) in
    omega (arith, step, length_more y ys)

pub tail_reversed : (xs : List ℕ) (n : ℕ) → drop (length xs - n) xs ≡ reverse (take n (reverse xs))
tail_reversed xs n =
    let front = reverse (drop n (reverse xs)) in
    let back = reverse (take n (reverse xs)) in
    let whole : front ++ back ≡ xs =
    sym (reverse-append (take n (reverse xs)) (drop n (reverse xs))) ∙ ap reverse (take-append-drop n (reverse xs)) ∙ reverse-reverse xs in
    let size : length front ≡ length xs - n =
    length-reverse (drop n (reverse xs)) ∙ length-drop n (reverse xs) ∙ ap (λ m. m - n) (length-reverse xs) in
    (λ k. drop (sym size k) (sym whole k)) ∙ drop-append_seam front back

end_is_same : (xs ys : List ℕ) → drop (length xs - common_end xs ys) xs ≡ drop (length ys - common_end xs ys) ys
end_is_same xs ys =
    tail_reversed xs (common_end xs ys) ∙ ap reverse (front_is_same (reverse xs) (reverse ys)) ∙ sym (tail_reversed ys (common_end xs ys))

-- ---- the splice between two texts

module _ (old new : List ℕ) where
  abbrev lo : ℕ
  lo = common_front old new

  abbrev same : ℕ
  same = common_end (drop lo old) (drop lo new)

  same_in_old : lo + same ≤ length old
  same_in_old = omega (arith, front_in_old old new, front_in_old (reverse (drop lo old)) (reverse (drop lo new)), length-reverse (drop lo old), length-drop lo old)

  same_in_new : lo + same ≤ length new
  same_in_new = omega (arith, front_in_new old new, front_in_new (reverse (drop lo old)) (reverse (drop lo new)), length-reverse (drop lo new), length-drop lo new)

  at_end : (xs : List ℕ) → lo + same ≤ length xs → drop (length xs - same) xs ≡ drop (length (drop lo xs) - same) (drop lo xs)
  at_end xs within =
      let place : length xs - same ≡ lo + (length (drop lo xs) - same) = omega (arith, within, length-drop lo xs) in
      ap (λ n. drop n xs) place ∙ sym (drop-drop (length (drop lo xs) - same) lo xs)

  rest : drop (length old - same) old ≡ drop (length new - same) new
  rest = at_end old same_in_old ∙ end_is_same (drop lo old) (drop lo new) ∙ sym (at_end new same_in_new)

  abbrev put : List ℕ
  put = slice_range new lo (length new - same)

  makes : spliced old lo (length old - same) put ≡ new
  makes =
      let split = drop_split new lo (length new - same) (omega (arith, same_in_new)) in
      append_assoc (take lo old) put (drop (length old - same) old)
      ∙ (λ k. front_is_same old new k ++ (put ++ rest k)) ∙ ap (λ t. take lo new ++ t) (sym split) ∙ take-append-drop lo new

  nothing_between : lo ≡ length old - same → put ≡ [] → old ≡ new
  nothing_between at empty =
      sym (take-append-drop lo old) ∙ (λ k. take lo old ++ (sym empty k ++ drop (at k) old))
      ∙ sym (append_assoc (take lo old) put (drop (length old - same) old)) ∙ makes

-- ---- the change, if there is any

picked : (a b : Bool) (s t : Splice) → (if a then (if b then None else Some s) else Some s) ≡ Some t → s ≡ t
picked a b s t is = grind arith

left_out : (a b : Bool) (s : Splice) → (if a then (if b then None else Some s) else Some s) ≡ None → (a ≡ true) × (b ≡ true)
left_out a b s is = grind arith

is_between : (old new : List ℕ) (s : Splice) → change_between old new ≡ Some s → splice_between old new ≡ s
is_between old new s is =
    let t = splice_between old new in
    picked (nat_eq t.lo t.hi) (nat_eq (length t.put) 0) t s is

pub change_makes : (old new : List ℕ) (s : Splice) → change_between old new ≡ Some s → spliced old s.lo s.hi s.put ≡ new
change_makes old new s is = sym (ap (λ (t : Splice). spliced old t.lo t.hi t.put) (is_between old new s is)) ∙ makes old new

pub change_within : (old new : List ℕ) (s : Splice) → change_between old new ≡ Some s → (s.lo ≤ s.hi) × (s.hi ≤ length old)
change_within old new s is =
    let begins : lo old new ≤ length old - same old new = omega (arith, same_in_old old new) in
    let ends : length old - same old new ≤ length old = omega arith in
    subst (λ (t : Splice). (t.lo ≤ t.hi) × (t.hi ≤ length old)) (is_between old new s is) (begins, ends)

pub no_change : (old new : List ℕ) → change_between old new ≡ None → old ≡ new
no_change old new is =
    let t = splice_between old new in
    let (at, empty) = left_out (nat_eq t.lo t.hi) (nat_eq (length t.put) 0) t is in
    nothing_between old new (eqb-true t.lo t.hi at) (nil_from_length t.put (eqb-true (length t.put) 0 empty))

-- ---- no change of a text itself

front_of_itself : (xs : List ℕ) → common_front xs xs ≡ length xs
front_of_itself [] = refl
front_of_itself (x ∷ xs) =
    ap (λ b. if b then suc (common_front xs xs) else 0) (eq-eqb x x refl) ∙ ap suc (front_of_itself xs)

left_out_if : (a b : Bool) (s : Splice) → a ≡ true → b ≡ true → (if a then (if b then None else Some s) else Some s) ≡ None
left_out_if a b s at empty = grind arith

pub no_change_of_itself : (text : List ℕ) → change_between text text ≡ None
no_change_of_itself text =
    let t = splice_between text text in
    let n = lo text text in
    let whole : n ≡ length text = front_of_itself text in
    let within : n + same text text ≤ length text = same_in_old text text in
    let at : n ≡ length text - same text text = omega (arith, whole, within) in
    let nothing : length (put text text) ≡ 0 =
    omega (arith, length-take (length text - same text text - n) (drop n text), length-drop n text, whole) in
    left_out_if (nat_eq t.lo t.hi) (nat_eq (length t.put) 0) t (eq-eqb t.lo t.hi at) (eq-eqb (length t.put) 0 nothing)

-- ---- a change that is noted

pub noted_change : (text : List ℕ) (c : Changes) (s : Splice) → change_between c.text text ≡ Some s
    → noted text c ≡ record { text = text; count = one_more c.count; list = c.list ++ s ∷ [] }
noted_change text c s is =
    ap (λ (o : Option Splice). elim o [ None ↦ c | Some t ↦ record { text = text; count = one_more c.count; list = c.list ++ t ∷ [] } ]) is

-- ---- one character after another

-- one character is alike, and so it goes on
pub next_alike : (old new : List ℕ) (i d : ℕ) → i < length old → i < length new → nat_eq (get_or old i d) (get_or new i d) ≡ true
    → common_front (drop i old) (drop i new) ≡ suc (common_front (drop (i + 1) old) (drop (i + 1) new))
next_alike old new i d before within alike =
    (λ k. common_front (drop_more old i d before k) (drop_more new i d within k))
    ∙ ap (λ b. if b then suc (common_front (drop (i + 1) old) (drop (i + 1) new)) else 0) alike

-- one is not
pub next_unlike : (old new : List ℕ) (i d : ℕ) → i < length old → i < length new → nat_eq (get_or old i d) (get_or new i d) ≡ false
    → common_front (drop i old) (drop i new) ≡ 0
next_unlike old new i d before within unlike =
    (λ k. common_front (drop_more old i d before k) (drop_more new i d within k))
    ∙ ap (λ b. if b then suc (common_front (drop (i + 1) old) (drop (i + 1) new)) else 0) unlike

none_with_nothing : (old : List ℕ) → common_front old [] ≡ 0
none_with_nothing [] = refl
none_with_nothing (x ∷ xs) = refl

-- one of them ended
pub new_ended : (old new : List ℕ) (i : ℕ) → length new ≤ i → common_front (drop i old) (drop i new) ≡ 0
new_ended old new i over = ap (λ xs. common_front (drop i old) xs) (drop_all i new over) ∙ none_with_nothing (drop i old)

-- ---- at their ends

pub ruleset at_ends = (get_or-reverse, length-reverse, new_ended)

module _ (old new : List ℕ) (i d : ℕ) (before : i < length old) (within : i < length new) where
  before_reversed : i < length (reverse old)
  before_reversed = subst (λ n. i < n) (sym (length-reverse old)) before

  within_reversed : i < length (reverse new)
  within_reversed = subst (λ n. i < n) (sym (length-reverse new)) within

  ends : nat_eq (get_or (reverse old) i d) (get_or (reverse new) i d) ≡ nat_eq (get_or old (length old - 1 - i) d) (get_or new (length new - 1 - i) d)
  ends k = nat_eq (get_or-reverse old i d before k) (get_or-reverse new i d within k)

  pub next_at_end : get_or old (length old - 1 - i) d ≡ get_or new (length new - 1 - i) d
      → common_front (drop i (reverse old)) (drop i (reverse new)) ≡ suc (common_front (drop (i + 1) (reverse old)) (drop (i + 1) (reverse new)))
  next_at_end alike = next_alike (reverse old) (reverse new) i d before_reversed within_reversed (ends ∙ eq-eqb _ _ alike)

  pub next_other_at_end : get_or old (length old - 1 - i) d ≢ get_or new (length new - 1 - i) d
      → common_front (drop i (reverse old)) (drop i (reverse new)) ≡ 0
  next_other_at_end unlike = next_unlike (reverse old) (reverse new) i d before_reversed within_reversed (ends ∙ ne_eqb _ _ unlike)

-- ---- whole blocks

one_alike : (x y : ℕ) (xs ys : List ℕ) (n m : ℕ) → x ≡ y → common_front xs ys ≡ n + m → common_front (x ∷ xs) (y ∷ ys) ≡ suc n + m
one_alike x y xs ys n m same rest =
    let first : common_front (x ∷ xs) (y ∷ ys) ≡ suc (common_front xs ys) = ap (λ b. if b then suc (common_front xs ys) else 0) (eq-eqb x y same) in
    omega (arith, first, rest)

-- a beginning that is alike, and so it goes on
pub goes_on : (n : ℕ) (xs ys : List ℕ) → n ≤ length xs → n ≤ length ys → take n xs ≡ take n ys
    → common_front xs ys ≡ n + common_front (drop n xs) (drop n ys)
goes_on zero xs ys in_old in_new alike = omega arith
goes_on (suc n) [] ys in_old in_new alike = absurd (omega (arith, in_old))
goes_on (suc n) (x ∷ xs) [] in_old in_new alike = absurd (omega (arith, in_new))
goes_on (suc n) (x ∷ xs) (y ∷ ys) in_old in_new alike =
    let first : x ≡ y = cc in
    let rest : take n xs ≡ take n ys = cc in
    one_alike x y xs ys n (common_front (drop n xs) (drop n ys)) first (goes_on n xs ys (omega (arith, in_old)) (omega (arith, in_new)) rest)

-- the same from a place on
pub block_on : (i n : ℕ) (xs ys : List ℕ) → i + n ≤ length xs → i + n ≤ length ys → take n (drop i xs) ≡ take n (drop i ys)
    → common_front (drop i xs) (drop i ys) ≡ n + common_front (drop (i + n) xs) (drop (i + n) ys)
block_on i n xs ys in_old in_new alike =
    goes_on n (drop i xs) (drop i ys) (omega (arith, in_old, length-drop i xs)) (omega (arith, in_new, length-drop i ys)) alike
    ∙ (λ k. n + common_front (drop-drop n i xs k) (drop-drop n i ys k))

-- ---- at their ends

front_reversed : (xs : List ℕ) (c : ℕ) → c ≤ length xs → drop c (reverse xs) ≡ reverse (take (length xs - c) xs)
front_reversed xs c within =
    let m = length xs - c in
    let size : length (reverse (drop m xs)) ≡ c = omega (arith, within, length-reverse (drop m xs), length-drop m xs) in
    ap (λ ys. drop c (reverse ys)) (sym (take-append-drop m xs))
    ∙ ap (drop c) (reverse-append (take m xs) (drop m xs))
    ∙ ap (λ n. drop n (reverse (drop m xs) ++ reverse (take m xs))) (sym size)
    ∙ drop-append_seam (reverse (drop m xs)) (reverse (take m xs))

end_slice : (xs : List ℕ) (c n : ℕ) → c ≤ length xs → take n (drop c (reverse xs)) ≡ reverse (drop (length (take (length xs - c) xs) - n) (take (length xs - c) xs))
end_slice xs c n within =
    let front = take (length xs - c) xs in
    ap (take n) (front_reversed xs c within)
    ∙ sym (reverse-reverse (take n (reverse front)))
    ∙ ap reverse (sym (tail_reversed front n))

pub end_block_on : (i n : ℕ) (old new : List ℕ) → i + n ≤ length old → i + n ≤ length new
    → drop (length (take (length old - i) old) - n) (take (length old - i) old) ≡ drop (length (take (length new - i) new) - n) (take (length new - i) new)
    → common_front (drop i (reverse old)) (drop i (reverse new)) ≡ n + common_front (drop (i + n) (reverse old)) (drop (i + n) (reverse new))
end_block_on i n old new in_old in_new alike =
    block_on i n (reverse old) (reverse new) (omega (arith, in_old, length-reverse old)) (omega (arith, in_new, length-reverse new))
    (end_slice old i n (omega (arith, in_old)) ∙ ap reverse alike ∙ sym (end_slice new i n (omega (arith, in_new))))

-- ---- what is known to be alike

pub front_known : (n : ℕ) (old new : List ℕ) → n ≤ length old → n ≤ length new → take n old ≡ take n new
    → n + common_front (drop n old) (drop n new) ≡ common_front old new
front_known n old new in_old in_new alike = sym (goes_on n old new in_old in_new alike)

pub end_known : (n : ℕ) (old new : List ℕ) → n ≤ length old → n ≤ length new → drop (length old - n) old ≡ drop (length new - n) new
    → n + common_front (drop n (reverse old)) (drop n (reverse new)) ≡ common_end old new
end_known n old new in_old in_new alike =
    let reversed : take n (reverse old) ≡ take n (reverse new) =
    sym (reverse-reverse (take n (reverse old))) ∙ ap reverse (sym (tail_reversed old n) ∙ alike ∙ tail_reversed new n) ∙ reverse-reverse (take n (reverse new)) in
    front_known n (reverse old) (reverse new) (omega (arith, in_old, length-reverse old)) (omega (arith, in_new, length-reverse new)) reversed

pub whole_rest : (n : ℕ) (xs : List ℕ) → take (length xs - n) (drop n xs) ≡ drop n xs
whole_rest n xs = take_all (length xs - n) (drop n xs) (omega (arith, length-drop n xs))

-- less of an end that is alike, seen from a place on
pub less_alike : (lo less more : ℕ) (old new : List ℕ) → less ≤ more → lo + less ≤ length old → lo + less ≤ length new → more ≤ length old → more ≤ length new
    → drop (length old - more) old ≡ drop (length new - more) new
    → drop (length (drop lo old) - less) (drop lo old) ≡ drop (length (drop lo new) - less) (drop lo new)
less_alike lo less more old new le in_old in_new all_old all_new alike = from old in_old all_old ∙ ap (drop (more - less)) alike ∙ sym (from new in_new all_new)
  where
    from : (xs : List ℕ) → lo + less ≤ length xs → more ≤ length xs → drop (length (drop lo xs) - less) (drop lo xs) ≡ drop (more - less) (drop (length xs - more) xs)
    from xs within all =
        let place : lo + (length (drop lo xs) - less) ≡ length xs - more + (more - less) = omega (arith, le, within, all, length-drop lo xs) in
        drop-drop (length (drop lo xs) - less) lo xs ∙ ap (λ n. drop n xs) place ∙ sym (drop-drop (more - less) (length xs - more) xs)
