-- What is left of a list of identifiers whose members were tested.
use Rattle.rga_store.proofs.Prelude.{◌≡◌, Bool, cond, filter, subst, List, [], ◌∷◌, ◌∙◌, Identifier}
use Rattle.std.specs.List.Retain.{RetainsInTurn}

-- what a `retain` leaves whose closure only tests
pub filter_retained : {F : Type 0} (R : F → Identifier → Bool → F → Identifier → Type 0) (test : Identifier → Bool) (f : F) → ((x : Identifier) (b : Bool) (g : F) (y : Identifier) → R f x b g y → (b ≡ test x) × (g ≡ f) × (y ≡ x)) → (xs ys : List Identifier) → RetainsInTurn R f xs ys → ys ≡ filter test xs
filter_retained R test f says [] ys h = h
filter_retained R test f says (x ∷ xs) ys h =
    let s = says x h.0 h.1 h.2 h.3 in
    let rest : h.4 ≡ filter test xs = filter_retained R test f says xs h.4 (subst (λ g. RetainsInTurn R g xs h.4) s.1 h.5) in
    h.6 ∙ (λ k. cond (s.0 k) (s.2 k ∷ rest k) (rest k))
