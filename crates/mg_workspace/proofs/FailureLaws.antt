-- Failures that are kept, and failures that move.
use Rattle.std.proofs.Common.{◌≡◌, ◌≤◌, Bool, cond, filter, subst, List, [], ◌∷◌, ◌++◌, length, take, arith, ap, ◌∙◌, append-nil}
use Rattle.std.proofs.lemmas.List.{drop_all, take_all}
use Rattle.std.specs.List.{refill}
use Rattle.std.specs.List.Retain.{RetainsInTurn}

-- what a `retain` leaves whose closure only tests
pub filter_retained : {F X : Type 0} (R : F → X → Bool → F → X → Type 0) (test : X → Bool) (f : F)
    → ((x : X) (b : Bool) (g : F) (y : X) → R f x b g y → (b ≡ test x) × (g ≡ f) × (y ≡ x)) → (xs ys : List X) → RetainsInTurn R f xs ys → ys ≡ filter test xs
filter_retained R test f says [] ys h = h
filter_retained R test f says (x ∷ xs) ys h =
    let s = says x h.0 h.1 h.2 h.3 in
    let rest : h.4 ≡ filter test xs = filter_retained R test f says xs h.4 (subst (λ g. RetainsInTurn R g xs h.4) s.1 h.5) in
    h.6 ∙ (λ k. cond (s.0 k) (s.2 k ∷ rest k) (rest k))

-- as many elements as there were take the place of all
pub refilled : {X : Type 0} (xs ys : List X) → length ys ≡ length xs → refill (length xs) xs ys ≡ ys
refilled xs ys same =
    let all : length xs ≤ length ys = omega (arith, same) in
    let within : length ys ≤ length xs = omega (arith, same) in
    ap (λ zs. take (length xs) (ys ++ zs)) (drop_all (length ys) xs all) ∙ ap (take (length xs)) (append-nil ys) ∙ take_all (length xs) ys within
