-- The characters of a list of elements, where one is put in or left out.
use Rattle.std.proofs.Common.{◌≡◌, ℕ, ◌+◌, List, [], ◌∷◌, ◌++◌, map, take, drop, refl, sym, ap, ◌∙◌}
use Rattle.std.specs.Prelude.{Option, Some}
use Rattle.std.specs.List.{filter_map}
use Rattle.std.proofs.lemmas.List.{map-append, take-map, drop-map}
use Rattle.rga_ops.specs.Identifier.{Identifier}

given : List (Option ℕ) → List ℕ
given os = filter_map (λ o. o) os

all_given : (xs : List ℕ) → given (map Some xs) ≡ xs
unfolding given
all_given [] = refl
all_given (x ∷ xs) = ap (λ r. x ∷ r) (all_given xs)

pub same_characters : (xs ys : List ℕ) → map Some xs ≡ map Some ys → xs ≡ ys
same_characters xs ys h = sym (all_given xs) ∙ ap given h ∙ all_given ys

module _ (character : Identifier → Option ℕ) where
  pub characters_without : (i : ℕ) (ids : List Identifier) (text : List ℕ) → map Some text ≡ map character ids → map character (take i ids ++ drop (i + 1) ids) ≡ map Some (take i text ++ drop (i + 1) text)
  characters_without i ids text h =
      map-append character (take i ids) (drop (i + 1) ids)
      ∙ (λ k. sym (take-map character i ids) k ++ sym (drop-map character (i + 1) ids) k)
      ∙ ap (λ os. take i os ++ drop (i + 1) os) (sym h)
      ∙ (λ k. take-map Some i text k ++ drop-map Some (i + 1) text k)
      ∙ sym (map-append Some (take i text) (drop (i + 1) text))

  pub characters_with : (n : ℕ) (new : Identifier) (ch : ℕ) (ids : List Identifier) (text : List ℕ) → map Some text ≡ map character ids → character new ≡ Some ch → map character (take n ids ++ new ∷ drop n ids) ≡ map Some (take n text ++ ch ∷ drop n text)
  characters_with n new ch ids text h at =
      map-append character (take n ids) (new ∷ drop n ids)
      ∙ (λ k. sym (take-map character n ids) k ++ at k ∷ sym (drop-map character n ids) k)
      ∙ ap (λ os. take n os ++ Some ch ∷ drop n os) (sym h)
      ∙ (λ k. take-map Some n text k ++ Some ch ∷ drop-map Some n text k)
      ∙ sym (map-append Some (take n text) (ch ∷ drop n text))
