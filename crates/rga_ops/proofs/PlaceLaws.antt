-- What one operation more does to the visible elements and the text, told by what a store counts: how many elements are
-- visible, and the place of one.
use Rattle.std.proofs.Common.{◌≡◌, ℕ, zero, suc, ◌+◌, ◌<◌, ◌≤◌, Bool, true, false, not, ◌&&◌, ◌||◌, List, [], ◌∷◌, ◌++◌, map, filter, take, drop, length, refl, sym, ap, ◌∙◌, arith, append-nil, true≢false}
use Rattle.std.specs.Prelude.{Option, Some, None, Ok}
use Rattle.std.specs.Option.{option_map}
use Rattle.std.specs.List.{list_any, slice_get}
use Rattle.std.specs.FinMap as finite_map
use Rattle.std.specs.FinSet as finite_set
use Rattle.std.proofs.lemmas.List.{map-append, take-map, drop-map}
use Rattle.std.proofs.lemmas.Option.{same_Some, none-some}
use Rattle.rga_ops.specs.Identifier.{Identifier}
use Rattle.rga_ops.specs.Content.{Element, Content, join, single, IsWithin}
use Rattle.rga_ops.specs.RootPath.{is_complete}
use Rattle.rga_ops.specs.Order.{text}
use Rattle.rga_ops.specs.Places.{is_visible, visible, character, place}
use Rattle.rga_ops.specs.Placement.{without}
use Rattle.rga_ops.specs.Splice.{spliced}
use Rattle.rga_ops.specs.Answer.{answer}
use Rattle.rga_ops.specs.declared.op.Op.TheVariants.{Insert, Delete}
use Rattle.rga_ops.specs.declared.refusal.Taken.TheVariants.{New}
use Rattle.rga_ops.proofs.IdentifierLaws.{is, same_id, is_id-same}
use Rattle.rga_ops.proofs.AnswerLaws.{new_insertion}
use Rattle.rga_ops.proofs.ContentLaws.{within_join}
use Rattle.rga_ops.proofs.GrowLaws.{order_within}
use Rattle.rga_ops.proofs.InsertionLaws.{contains-insertion, get-inserted}
use Rattle.rga_ops.proofs.VisibleLaws.{is_kept, visible_is, visible_elements, text_is, characters_within, own_index, place_at}
use Rattle.rga_ops.proofs.SpliceLaws.{same_characters}
use Rattle.rga_ops.proofs.DeletionLaws.{visible-deletion, visible-deletion_at, text-deletion_at, character-deletion}
use Rattle.std.proofs.lemmas.List.Sums.{length-filter, count_by-le-length}

-- ---- lists

-- what is in a list stands at an index of it
pub index_in : (id : Identifier) (xs : List Identifier) → list_any (is id) xs ≡ true → (i : ℕ) × (slice_get xs i ≡ Some id)
index_in id [] m = absurd (true≢false (sym m))
index_in id (x ∷ xs) m = elim (is id x) as (λ b. is id x ≡ b → (b || list_any (is id) xs) ≡ true → (i : ℕ) × (slice_get (x ∷ xs) i ≡ Some id)) [
  | true ↦ λ t m. (0, ap Some (sym (same_id id x t)))
  | false ↦ λ f m. let later : (i : ℕ) × (slice_get xs i ≡ Some id) = index_in id xs m in (suc later.0, later.1)
] refl m

twice_filtered : (p q : Identifier → Bool) (xs : List Identifier) → filter p (filter q xs) ≡ filter q (filter p xs)
twice_filtered p q [] = refl
twice_filtered p q (x ∷ xs) = grind (arith, twice_filtered p q xs)

no_longer : (p : Identifier → Bool) (xs : List Identifier) → length (filter p xs) ≤ length xs
no_longer p xs = omega (arith, length-filter p xs, count_by-le-length p xs)

-- a filter that leaves as many leaves all
all_left : (p : Identifier → Bool) (xs : List Identifier) → length xs ≡ length (filter p xs) → xs ≡ filter p xs
all_left p [] h = refl
all_left p (x ∷ xs) h = grind (arith, all_left p xs, no_longer p xs)

-- what does not pass is left out
shorter : (p : Identifier → Bool) (xs : List Identifier) (k : ℕ) (id : Identifier) → slice_get xs k ≡ Some id → p id ≡ false → length (filter p xs) < length xs
shorter p [] k id h out = absurd (none-some _ h)
shorter p (x ∷ xs) zero id h out = grind (arith, no_longer p xs)
shorter p (x ∷ xs) (suc k) id h out = grind (arith, shorter p xs k id h out)

-- where one item alone is left out, the list is the filtered one with that item put in at its index
one_left_out : (p : Identifier → Bool) (xs : List Identifier) (k : ℕ) (id : Identifier) → slice_get xs k ≡ Some id → p id ≡ false → length xs ≡ suc (length (filter p xs)) → xs ≡ spliced (filter p xs) k k (id ∷ [])
one_left_out p [] k id h out one = absurd (none-some _ h)
one_left_out p (x ∷ xs) zero id h out one = grind (arith, same_Some, all_left)
one_left_out p (x ∷ xs) (suc k) id h out one = grind (arith, one_left_out p xs k id h out, shorter p xs k id h out)

map-spliced : {A B : Type 0} (g : A → B) (xs ys : List A) (lo hi : ℕ) → map g (spliced xs lo hi ys) ≡ spliced (map g xs) lo hi (map g ys)
map-spliced g xs ys lo hi = grind (arith, map-append, take-map, drop-map)

-- a text and its elements, spliced alike
spliced_alike : (f : Identifier → Option ℕ) (characters put : List ℕ) (elements row : List Identifier) (lo hi : ℕ) → map Some characters ≡ map f elements → map Some put ≡ map f row → map Some (spliced characters lo hi put) ≡ map f (spliced elements lo hi row)
spliced_alike f characters put elements row lo hi h p =
    map-spliced Some characters put lo hi ∙ (λ k. spliced (h k) lo hi (p k)) ∙ sym (map-spliced f elements row lo hi)

-- ---- places

-- a visible element stands where its place says
pub index_of_place : (c : Content) (id : Identifier) (k : ℕ) → is_visible c id ≡ true → place c id ≡ Some (suc k) → slice_get (visible c) k ≡ Some id
index_of_place c id k shows h =
    let at : (i : ℕ) × (slice_get (visible c) i ≡ Some id) = index_in id (visible c) (visible_elements c id ∙ shows) in
    let same : at.0 + 1 ≡ suc k = same_Some _ _ (sym (place_at c id at.0 (own_index c id at.0 at.1)) ∙ h) in
    let index : at.0 ≡ k = omega (arith, same) in
    ap (slice_get (visible c)) (sym index) ∙ at.1

-- what has a place past the front is complete
pub complete_of_place : (c : Content) (id : Identifier) (k : ℕ) → place c id ≡ Some (suc k) → is_complete c id ≡ true
complete_of_place c id k h = grind arith

-- ---- a larger content

module _ (c d : Content) (w : IsWithin c d) where
  -- of a larger content with no deletion more, the visible elements are those that were, and perhaps others
  visible_within : is_kept d ≡ is_kept c → visible c ≡ filter (is_complete c) (visible d)
  visible_within same = grind (arith, visible_is, is_kept, order_within, twice_filtered)

-- ---- an insertion more

-- an insertion that is new to a store
pub absent_if_new : (limit : ℕ) (c : Content) (id parent : Identifier) (ch : ℕ) → answer limit c (Insert id parent ch) ≡ Ok New → finite_map.get c.inserted id ≡ None
absent_if_new limit c id parent ch h = (new_insertion limit c id parent ch h).absent

module _ (c : Content) (id parent : Identifier) (ch : ℕ) where
  abbrev d : Content
  d = join c (single (Insert id parent ch))

  grows : IsWithin c d
  grows = within_join c (single (Insert id parent ch))

  kept_same : is_kept d ≡ is_kept c
  kept_same = λ k q. not (contains-insertion c id parent ch q k)

  among_new : visible c ≡ filter (is_complete c) (visible d)
  among_new = visible_within c d grows kept_same

  -- where as many are visible as before, they are the same
  pub visible-insertion_hidden : length (visible d) ≡ length (visible c) → visible d ≡ visible c
  visible-insertion_hidden as_many =
      all_left (is_complete c) (visible d) (as_many ∙ ap length among_new) ∙ sym among_new

  pub text-insertion_hidden : length (visible d) ≡ length (visible c) → text d ≡ text c
  text-insertion_hidden as_many = same_characters _ _ (
      text_is d ∙ ap (map (character d)) (visible-insertion_hidden as_many) ∙ sym (characters_within c d grows))

  module _ (k : ℕ) (absent : finite_map.get c.inserted id ≡ None) where
    not_complete : is_complete c id ≡ false
    not_complete = grind arith

    -- Where one more is visible, and the new element is: it alone was put in, at its index.
    pub visible-insertion_at : slice_get (visible d) k ≡ Some id → length (visible d) ≡ suc (length (visible c)) → visible d ≡ spliced (visible c) k k (id ∷ [])
    visible-insertion_at there one_more =
        one_left_out (is_complete c) (visible d) k id there not_complete (one_more ∙ ap (λ xs. suc (length xs)) among_new)
        ∙ ap (λ xs. spliced xs k k (id ∷ [])) (sym among_new)

    pub text-insertion_at : slice_get (visible d) k ≡ Some id → length (visible d) ≡ suc (length (visible c)) → text d ≡ spliced (text c) k k (ch ∷ [])
    text-insertion_at there one_more = same_characters _ _ (
        text_is d ∙ ap (map (character d)) (visible-insertion_at there one_more)
        ∙ sym (spliced_alike (character d) (text c) (ch ∷ []) (visible c) (id ∷ []) k k (characters_within c d grows) (λ j. sym here j ∷ [])))
      where
        here : character d id ≡ Some ch
        here = ap (option_map (λ (x : Element). x.ch)) (get-inserted c id parent ch absent)

    -- the same by its place, where it is not deleted
    module _ (kept : finite_set.contains c.deleted id ≡ false) (stands : place d id ≡ Some (suc k)) where
      at_its_place : slice_get (visible d) k ≡ Some id
      at_its_place = index_of_place d id k shows stands
        where
          shows : is_visible d id ≡ true
          shows = λ j. complete_of_place d id k stands j && not ((contains-insertion c id parent ch id ∙ kept) j)

      pub visible-insertion_place : length (visible d) ≡ suc (length (visible c)) → visible d ≡ spliced (visible c) k k (id ∷ [])
      visible-insertion_place = visible-insertion_at at_its_place

      pub text-insertion_place : length (visible d) ≡ suc (length (visible c)) → text d ≡ spliced (text c) k k (ch ∷ [])
      text-insertion_place = text-insertion_at at_its_place

-- ---- a deletion more

cut_nothing : {A : Type 0} (xs : List A) (k : ℕ) → take k xs ++ drop (k + 1) xs ≡ spliced xs k (suc k) []
cut_nothing xs k = grind (arith, append-nil)

not_in_it : (id : Identifier) (xs : List Identifier) → list_any (is id) xs ≡ false → without id xs ≡ xs
not_in_it id [] h = refl
not_in_it id (x ∷ xs) h = grind (arith, not_in_it id xs, is_id-same x id)

module _ (c : Content) (id : Identifier) where
  abbrev less : Content
  less = join c (single (Delete id))

  -- what was visible is cut out at its index
  pub visible-deletion_cut : (k : ℕ) → slice_get (visible c) k ≡ Some id → visible less ≡ spliced (visible c) k (suc k) []
  visible-deletion_cut k h = visible-deletion_at c id k h ∙ cut_nothing (visible c) k

  pub text-deletion_cut : (k : ℕ) → slice_get (visible c) k ≡ Some id → text less ≡ spliced (text c) k (suc k) []
  text-deletion_cut k h = text-deletion_at c id k h ∙ cut_nothing (text c) k

  -- and of what was not nothing is seen
  pub visible-deletion_hidden : is_visible c id ≡ false → visible less ≡ visible c
  visible-deletion_hidden h = visible-deletion c id ∙ not_in_it id (visible c) (visible_elements c id ∙ h)

  pub text-deletion_hidden : is_visible c id ≡ false → text less ≡ text c
  text-deletion_hidden h = same_characters _ _ (
      text_is less ∙ (λ j. map (character-deletion c id j) (visible-deletion_hidden h j)) ∙ sym (text_is c))
