-- Where no element waits, the inserted ones are the complete ones.
use Rattle.rga_doc.proofs.Prelude.{◌≡◌, Bool, true, false, cond, not, ◌||◌, is_some, List, [], ◌∷◌, filter, length, refl, sym, ap, ◌∙◌, true≢false, arith, list_any, Identifier, Content, is_complete, waiting, is, same_id, inserted_if_complete}
use Rattle.std.specs.FinMap as finite_map

-- where all pass, one that does not is not there
none_there : (p : Identifier → Bool) (xs : List Identifier) (q : Identifier) → length (filter (λ x. not (p x)) xs) ≡ 0 → p q ≡ false → list_any (is q) xs ≡ false
none_there p [] q h f = refl
none_there p (x ∷ xs) q h f = elim (p x) as (λ b. p x ≡ b → length (cond (not b) (x ∷ filter (λ y. not (p y)) xs) (filter (λ y. not (p y)) xs)) ≡ 0 → list_any (is q) (x ∷ xs) ≡ false) [
  | true ↦ λ t h. (λ k. another t k || none_there p xs q h f k)
  | false ↦ λ t h. absurd (omega (arith, h))
] refl h
  where
    another : p x ≡ true → is q x ≡ false
    another t = elim (is q x) as (λ b. is q x ≡ b → b ≡ false) [
      | true ↦ λ s. absurd (true≢false (sym t ∙ ap p (sym (same_id q x s)) ∙ f))
      | false ↦ λ s. refl
    ] refl

pub inserted_complete : (c : Content) → length (waiting c) ≡ 0 → (id : Identifier) → finite_map.contains_key c.inserted id ≡ is_complete c id
inserted_complete c none id = elim (is_complete c id) as (λ b. is_complete c id ≡ b → finite_map.contains_key c.inserted id ≡ b) [
  | true ↦ λ t. ap is_some (inserted_if_complete c id t).1
  | false ↦ λ f. finite_map.contains_key-keys c.inserted id ∙ none_there (is_complete c) (finite_map.keys c.inserted) id none f
] refl
