-- A list in parts, and the places in these.
use Rattle.std.specs.Prelude.{◌≤◌, ◌<◌, ℕ, zero, suc, List, [], ◌∷◌, ◌++◌, length, take, drop}
use Rattle.std.specs.List.{AllByRecursion}

-- the parts one after another
abbrev pub flat : {A : Type 0} → List (List A) → List A
flat [] = []
flat (p ∷ ps) = p ++ flat ps

-- no part is empty
abbrev pub AreFilled : {A : Type 0} → List (List A) → Type 0
AreFilled ps = AllByRecursion (λ p. 0 < length p) ps

-- what stands before an index in a part
abbrev pub before : {A : Type 0} → List (List A) → ℕ → ℕ → List A
before [] part index = []
before (p ∷ ps) zero index = take index p
before (p ∷ ps) (suc part) index = p ++ before ps part index

-- what stands from an index in a part on
abbrev pub behind : {A : Type 0} → List (List A) → ℕ → ℕ → List A
behind [] part index = []
behind (p ∷ ps) zero index = drop index p ++ flat ps
behind (p ∷ ps) (suc part) index = behind ps part index

-- there is such a part, and the index is within it
abbrev pub IsPlace : {A : Type 0} → List (List A) → ℕ → ℕ → Type 0
IsPlace [] part index = ⊥
IsPlace (p ∷ ps) zero index = index ≤ length p
IsPlace (p ∷ ps) (suc part) index = IsPlace ps part index

-- a part is two
abbrev pub cut_in : {A : Type 0} → List (List A) → ℕ → ℕ → List (List A)
cut_in [] part cut = []
cut_in (p ∷ ps) zero cut = take cut p ∷ drop cut p ∷ ps
cut_in (p ∷ ps) (suc part) cut = p ∷ cut_in ps part cut

-- a list comes in at an index
abbrev pub insert_all : {A : Type 0} → List A → ℕ → List A → List A
insert_all xs index ys = take index xs ++ (ys ++ drop index xs)
