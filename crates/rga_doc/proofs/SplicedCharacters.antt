-- Lists that are spliced, one after the other, and parts that are cut out of them.
use Rattle.rga_doc.proofs.Prelude.{◌≡◌, ℕ, ◌+◌, ◌-◌, ◌≤◌, List, [], ◌++◌, take, drop, length, sym, ap, ◌∙◌, arith, append_assoc, append-nil, length-append, length-drop, length-take-le, take-append-drop, take_at, drop_at, take-take, drop-drop}
use Rattle.rga_doc.proofs.Prelude.{drop-append-le, drop-take, spliced}

pub splice_on : {A : Type 0} (xs a b : List A) (lo hi m n k end : ℕ) → lo ≤ length xs → m ≡ lo + length a → n ≡ m + k → end ≡ hi + k → spliced (spliced xs lo hi a) m n b ≡ spliced xs lo end (a ++ b)
splice_on {A} xs a b lo hi m n k end within at upto until =
    let front : List A = take lo xs ++ a in
    let long : length front ≡ m = length-append (take lo xs) a ∙ ap (λ i. i + length a) (length-take-le lo xs within) ∙ sym at in
    let right : drop n (front ++ drop hi xs) ≡ drop end xs =
    ap (λ i. drop i (front ++ drop hi xs)) upto ∙ sym (drop-drop k m (front ++ drop hi xs)) ∙ ap (drop k) (drop_at front (drop hi xs) m long)
    ∙ drop-drop k hi xs ∙ ap (λ i. drop i xs) (sym until) in
    (λ j. (take_at front (drop hi xs) m long j ++ b) ++ right j)
    ∙ ap (λ ys. ys ++ drop end xs) (append_assoc (take lo xs) a b)

-- what stands before a splice stays
pub take-spliced : {A : Type 0} (xs a : List A) (lo hi : ℕ) → lo ≤ length xs → take lo (spliced xs lo hi a) ≡ take lo xs
take-spliced xs a lo hi within =
    ap (take lo) (append_assoc (take lo xs) a (drop hi xs)) ∙ take_at (take lo xs) (a ++ drop hi xs) lo (length-take-le lo xs within)

pub long-spliced : {A : Type 0} (xs a : List A) (lo hi : ℕ) → lo ≤ length xs → lo ≤ length (spliced xs lo hi a)
long-spliced xs a lo hi within = grind (arith, length, spliced, take, drop, length-append, length-take-le)

-- how long a spliced list is
pub length-spliced : {A : Type 0} (xs a : List A) (lo hi : ℕ) → lo ≤ hi → hi ≤ length xs → length (spliced xs lo hi a) + hi ≡ lo + length a + length xs
length-spliced xs a lo hi up within = grind (arith, length, spliced, take, drop, length-append, length-take-le, length-drop)

pub splice_nothing : {A : Type 0} (xs : List A) (lo : ℕ) → xs ≡ spliced xs lo lo []
splice_nothing xs lo = sym (take-append-drop lo xs) ∙ ap (λ ys. ys ++ drop lo xs) (sym (append-nil (take lo xs)))

-- what is cut out, and what stands behind it
pub cut : {A : Type 0} (xs : List A) (lo hi : ℕ) → lo ≤ hi → hi ≤ length xs → drop lo xs ≡ drop lo (take hi xs) ++ drop hi xs
cut xs lo hi up within =
    let long : length (take hi xs) ≡ hi = length-take-le hi xs within in
    ap (drop lo) (sym (take-append-drop hi xs)) ∙ drop-append-le lo (take hi xs) (drop hi xs) (omega (arith, up, long))

-- what is cut out, counted from where it begins
pub part : {A : Type 0} (xs : List A) (lo hi : ℕ) → lo ≤ hi → take (hi - lo) (drop lo xs) ≡ drop lo (take hi xs)
part xs lo hi up =
    let reaches : lo + (hi - lo) ≡ hi = omega (arith, up) in
    sym (drop-take lo (hi - lo) xs) ∙ ap (λ n. drop lo (take n xs)) reaches

-- so many are cut out
pub length-cut : {A : Type 0} (xs : List A) (lo hi : ℕ) → lo ≤ hi → hi ≤ length xs → hi ≡ lo + length (drop lo (take hi xs))
length-cut xs lo hi up within = grind (arith, length, take, length-take-le, length-drop)

-- lists that begin alike begin alike up to each lower place
pub same_begin : {A : Type 0} (xs ys : List A) (m n : ℕ) → m ≤ n → take n xs ≡ take n ys → take m xs ≡ take m ys
same_begin xs ys m n low h = sym (take-take m n xs low) ∙ ap (take m) h ∙ take-take m n ys low
