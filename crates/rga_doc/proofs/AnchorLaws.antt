-- The element left of a place in the visible elements is the one that the place is behind, and has that place.
use Rattle.rga_doc.proofs.Prelude.{◌≡◌, ℕ, zero, suc, ◌+◌, ◌<◌, ◌≤◌, length, refl, sym, ap, ◌∙◌, arith, Some, unwrap_or, slice_get, slice_get-get_or, root, Content, visible, place, own_index, place_at, left_of, element_behind}

left_there : (c : Content) (k : ℕ) → k < length (visible c) → slice_get (visible c) k ≡ Some (left_of (visible c) (suc k))
left_there c k within =
    let at = slice_get-get_or (visible c) k root within in
    at ∙ ap Some (sym (ap (λ o. unwrap_or o root) at))

pub left_behind : (c : Content) (k : ℕ) → k ≤ length (visible c) → element_behind c k ≡ Some (left_of (visible c) k)
left_behind c zero within = refl
left_behind c (suc k) within = left_there c k (omega (arith, within))

pub left_place : (c : Content) (k : ℕ) → k ≤ length (visible c) → place c (left_of (visible c) k) ≡ Some k
left_place c zero within = refl
left_place c (suc k) within =
    let next : k + 1 ≡ suc k = omega arith in
    place_at c (left_of (visible c) (suc k)) k (own_index c (left_of (visible c) (suc k)) k (left_there c k (omega (arith, within)))) ∙ ap Some next
