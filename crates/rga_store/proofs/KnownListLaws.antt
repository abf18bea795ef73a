-- What is known whole changes nothing.
use Rattle.rga_store.proofs.Prelude.{◌≡◌, ℕ, List, [], ◌∷◌, false, Ok, refl, arith, join_nothing, Content, join, content_of, taken_one_by_one, Op, known-iff, holds, new_operations}
use Rattle.rga_ops.proofs.NewLaws.{holds-iff, content-new}
use Rattle.rga_store.specs.Growth.{has_unknown}

pub known_list_taken : (limit : ℕ) (c : Content) (ops : List Op) → has_unknown c ops ≡ false → taken_one_by_one limit c ops ≡ Ok c
known_list_taken limit c [] h = refl
known_list_taken limit c (op ∷ ops) h = grind (arith, known-iff limit c op, holds-iff c op, known_list_taken limit c ops)

pub known_list_not_new : (c : Content) (ops : List Op) → has_unknown c ops ≡ false → new_operations c ops ≡ []
known_list_not_new c [] h = refl
known_list_not_new c (op ∷ ops) h = grind (arith, known_list_not_new c ops)

pub known_list_joined : (c : Content) (ops : List Op) → has_unknown c ops ≡ false → join c (content_of ops) ≡ c
known_list_joined c ops h = grind (arith, content-new c ops, known_list_not_new c ops h, join_nothing c)
