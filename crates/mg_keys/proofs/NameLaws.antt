-- Names of other lengths.
use Rattle.std.proofs.Common.{arith, ◌≡◌, ℕ, suc, false, List, [], ◌∷◌, length, ap, refl}
use Rattle.mg_keys.specs.KeyTable.{same_keys}

-- what has another length is another name
pub other_length : (js ks : List ℕ) → (length js ≡ length ks → ⊥) → false ≡ same_keys js ks
other_length [] [] h = absurd (h refl)
other_length [] (k ∷ ks) h = refl
other_length (j ∷ js) [] h = refl
other_length (j ∷ js) (k ∷ ks) h = grind (arith, other_length js ks (λ e. h (ap suc e)))
