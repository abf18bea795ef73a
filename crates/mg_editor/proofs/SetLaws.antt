-- The elements of a list of which one became another, or left.
use Rattle.std.proofs.Common.{◌≡◌, ◌≢◌, ◌⊎◌, inl, inr, ℕ, zero, suc, ◌<◌, List, [], ◌∷◌, length, get_or, set, take, drop, sym, subst, arith}
use Rattle.std.specs.List.{Contains, remove}
use Rattle.std.proofs.lemmas.List.{get_or-set_same, length-set, take-append-drop}
use Rattle.std.proofs.lemmas.List.Elements.{Contains-append_left, Contains-append_right, Contains-append_cases}

module _ {X : Type 0} where
  -- one is that, or stands where it stood
  pub set_cases : (xs : List X) (i : ℕ) (y x : X) → Contains (set xs i y) x → (y ≡ x) ⊎ ((k : ℕ) × (k < length xs) × (k ≢ i) × (get_or xs k x ≡ x))
  set_cases xs i y x c = by xs i c.0 c.1 c.2
    where
      by : (xs : List X) (i k : ℕ) → k < length (set xs i y) → get_or (set xs i y) k x ≡ x → (y ≡ x) ⊎ ((k : ℕ) × (k < length xs) × (k ≢ i) × (get_or xs k x ≡ x))
      by [] i k lt e = absurd (omega (arith, lt))
      by (z ∷ xs) zero zero lt e = inl e
      by (z ∷ xs) zero (suc k) lt e = inr (suc k, lt, (λ no. absurd (omega (arith, no))), e)
      by (z ∷ xs) (suc i) zero lt e = inr (zero, omega arith, (λ no. absurd (omega (arith, no))), e)
      by (z ∷ xs) (suc i) (suc k) lt e = elim (by xs i k (omega (arith, lt)) e) [
        | inl is ↦ inl is
        | inr o ↦ inr (suc o.0, omega (arith, o.1), (λ no. o.2 (omega (arith, no))), o.3)
      ]

  pub set_has : (xs : List X) (i : ℕ) (y : X) → i < length xs → Contains (set xs i y) y
  set_has xs i y lt = (i, subst (λ n. i < n) (sym (length-set xs i y)) lt, get_or-set_same xs i y y lt)

  -- what was there is there still, but the one at the place
  pub still_there : (xs : List X) (i : ℕ) (y x d : X) → Contains xs x → (x ≡ get_or xs i d) ⊎ Contains (set xs i y) x
  still_there xs i y x d c = by xs i c.0 c.1 c.2
    where
      by : (xs : List X) (i k : ℕ) → k < length xs → get_or xs k x ≡ x → (x ≡ get_or xs i d) ⊎ Contains (set xs i y) x
      by [] i k lt e = absurd (omega (arith, lt))
      by (z ∷ xs) zero zero lt e = inl (sym e)
      by (z ∷ xs) zero (suc k) lt e = inr (suc k, lt, e)
      by (z ∷ xs) (suc i) zero lt e = inr (zero, omega arith, e)
      by (z ∷ xs) (suc i) (suc k) lt e = elim (by xs i k (omega (arith, lt)) e) [
        | inl is ↦ inl is
        | inr o ↦ inr (suc o.0, omega (arith, o.1), o.2)
      ]

  pub was_there : (xs : List X) (i : ℕ) (x : X) → Contains (remove xs i) x → Contains xs x
  was_there xs i x c = elim (Contains-append_cases (take i xs) (drop (suc i) xs) x c) [
    | inl front ↦ subst (λ l. Contains l x) (take-append-drop i xs) (Contains-append_left (take i xs) (drop i xs) x front)
    | inr back ↦ subst (λ l. Contains l x) (take-append-drop (suc i) xs) (Contains-append_right (take (suc i) xs) (drop (suc i) xs) x back)
  ]

  -- and so is what is not removed
  pub still_or_gone : (xs : List X) (i : ℕ) (x d : X) → Contains xs x → Contains (remove xs i) x ⊎ (x ≡ get_or xs i d)
  still_or_gone xs i x d c = by xs i c.0 c.1 c.2
    where
      by : (xs : List X) (i k : ℕ) → k < length xs → get_or xs k x ≡ x → Contains (remove xs i) x ⊎ (x ≡ get_or xs i d)
      by [] i k lt e = absurd (omega (arith, lt))
      by (z ∷ xs) zero zero lt e = inr (sym e)
      by (z ∷ xs) zero (suc k) lt e = inl (k, omega (arith, lt), e)
      by (z ∷ xs) (suc i) zero lt e = inl (zero, omega arith, e)
      by (z ∷ xs) (suc i) (suc k) lt e = elim (by xs i k (omega (arith, lt)) e) [
        | inl o ↦ inl (suc o.0, omega (arith, o.1), o.2)
        | inr is ↦ inr is
      ]
