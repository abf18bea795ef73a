use Rattle.std.proofs.Common.{◌≡◌, ℕ, zero, suc, List, [], ◌∷◌, get_or, refl, inl, inr}
use Rattle.std.specs.List.{AllClonesOf}
use Rattle.rga_exchange.proofs.compacting.RunEnds.new.Goals as goal

-- where each element is 0, so is what stands at any index
all_zero : (xs : List ℕ) → AllClonesOf (λ (x y : ℕ). y ≡ x) 0 xs → (q : ℕ) → get_or xs q 0 ≡ 0
all_zero [] all q = refl
all_zero (x ∷ xs) all zero = elim all.0 [ inl is ↦ is | inr is ↦ is ]
all_zero (x ∷ xs) all (suc q) = all_zero xs all.1 q

pub returns : goal.returns
returns c = all_zero c.in_ok-counters.counters.items c.in_ok-counters.ensures.items
