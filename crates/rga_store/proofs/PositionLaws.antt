-- The index of a visible element, by its place.
use Rattle.rga_store.proofs.Prelude.{◌≡◌, ℕ, zero, suc, ◌+◌, ◌-◌, ◌≤◌, true, false, not, ◌&&◌, ◌||◌, List, [], ◌∷◌, position, refl, sym, ap, ◌∙◌, arith, true≢false, Option, Some, None, SomeIff, IfSome, option_map, list_any, slice_get, and-false, same_Some, none-some, Identifier, is_id, Content, element_at, is, is_id-same}
use Rattle.std.specs.FinSet as finite_set
use Rattle.rga_ops.specs.RootPath.{is_complete}
use Rattle.rga_ops.specs.Places.{is_visible, visible, place}
use Rattle.rga_ops.proofs.PathLaws.{inserted_if_complete}
use Rattle.rga_ops.proofs.VisibleLaws.{visible_elements, position_later, own_index, no_place, place_at}
use Rattle.rga_ops.proofs.PlaceLaws.{index_in, index_of_place, complete_of_place}

-- what is not in a list has no index
absent : (id : Identifier) (xs : List Identifier) → list_any (is id) xs ≡ false → position (λ x. is_id x id) xs ≡ None
absent id [] h = refl
absent id (x ∷ xs) h = elim (is id x) as (λ b. is id x ≡ b → (b || list_any (is id) xs) ≡ false → position (λ y. is_id y id) (x ∷ xs) ≡ None) [
  | true ↦ λ t h. absurd (true≢false h)
  | false ↦ λ t h. position_later (λ y. is_id y id) x xs (is_id-same x id ∙ t) ∙ ap (option_map (λ n. suc n)) (absent id xs h)
] refl h

module _ (c : Content) (id : Identifier) where
  hidden : is_visible c id ≡ false → None ≡ position (λ x. is_id x id) (visible c)
  hidden h = sym (absent id (visible c) (visible_elements c id ∙ h))

  incomplete : is_complete c id ≡ false → None ≡ position (λ x. is_id x id) (visible c)
  incomplete h = hidden (λ k. h k && not (finite_set.contains c.deleted id))

  pub uninserted_position : element_at c id ≡ None → None ≡ position (λ x. is_id x id) (visible c)
  uninserted_position none = incomplete (elim (is_complete c id) as (λ b. is_complete c id ≡ b → b ≡ false) [
    | true ↦ λ complete. let at = inserted_if_complete c id complete in absurd (none-some _ (sym none ∙ ap (option_map (λ x. (x.parent, x.ch))) at.1))
    | false ↦ λ _. refl
  ] refl)

  pub deleted_position : finite_set.contains c.deleted id ≡ true → None ≡ position (λ x. is_id x id) (visible c)
  deleted_position deleted = hidden ((λ k. is_complete c id && not (deleted k)) ∙ and-false (is_complete c id))

  pub placeless_position : place c id ≡ None → None ≡ position (λ x. is_id x id) (visible c)
  placeless_position none = incomplete ((no_place c id).0 none).1

  -- of an element that is not deleted, the index before its place
  pub placed_position : (n : ℕ) (o : Option ℕ) → finite_set.contains c.deleted id ≡ false → place c id ≡ Some n → SomeIff o (1 ≤ n) (n - 1) → (o ≡ position (λ x. is_id x id) (visible c)) × IfSome o (λ k. slice_get (visible c) k ≡ Some id)
  placed_position zero None kept placed none = (hidden front, tt)
    where
      front : is_visible c id ≡ false
      front = elim (is_visible c id) as (λ b. is_visible c id ≡ b → b ≡ false) [
        | true ↦ λ shown.
            let at : (i : ℕ) × (slice_get (visible c) i ≡ Some id) = index_in id (visible c) (visible_elements c id ∙ shown) in
            let behind : 0 ≡ at.0 + 1 = same_Some _ _ (sym placed ∙ place_at c id at.0 (own_index c id at.0 at.1)) in
            absurd (omega (arith, behind))
        | false ↦ λ _. refl
      ] refl
  placed_position zero (Some k) kept placed some = let within : 1 ≤ 0 = some.0 in absurd (omega (arith, within))
  placed_position (suc k) None kept placed none = absurd (none (omega arith))
  placed_position (suc k) (Some j) kept placed some =
      let same : j ≡ k = omega (arith, some.1) in
      let there : slice_get (visible c) k ≡ Some id = index_of_place c id k (λ i. complete_of_place c id k placed i && not (kept i)) placed in
      (ap Some same ∙ sym (own_index c id k there), ap (slice_get (visible c)) same ∙ there)
