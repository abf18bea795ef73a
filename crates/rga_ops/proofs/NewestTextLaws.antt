-- An insertion whose counter is above all others: which elements are complete and visible then, and the text as a splice.
use Rattle.std.proofs.Common.{◌≡◌, ℕ, ◌+◌, ◌<◌, ◌≤◌, true, false, cond, not, ◌||◌, ◌∷◌, ◌++◌, map, filter, take, drop, sym, ap, ◌∙◌, arith}
use Rattle.std.specs.Prelude.{Some, Ok}
use Rattle.std.specs.Option.{option_map}
use Rattle.std.specs.List.{slice_get}
use Rattle.std.specs.FinMap as finite_map
use Rattle.std.proofs.lemmas.Bool.{and_parts, or_left, or_right}
use Rattle.rga_ops.specs.Identifier.{Identifier, is_root}
use Rattle.rga_ops.specs.Operation.{checked}
use Rattle.rga_ops.specs.Content.{Element, element, Content, join, single, clock_of}
use Rattle.rga_ops.specs.RootPath.{is_complete}
use Rattle.rga_ops.specs.Order.{order, text}
use Rattle.rga_ops.specs.Places.{visible, character}
use Rattle.rga_ops.specs.Placement.{change_after, put_behind}
use Rattle.rga_ops.proofs.ContentLaws.{within_join}
use Rattle.rga_ops.proofs.PathLaws.{inserted_if_complete}
use Rattle.rga_ops.proofs.VisibleLaws.{is_kept, visible_is, visible_elements, text_is, characters_within, own_index}
use Rattle.rga_ops.proofs.ClockLaws.{within_clock, clock_insertion}
use Rattle.rga_ops.proofs.InsertionLaws.{is_root_or_complete, contains-insertion, get-inserted}
use Rattle.rga_ops.proofs.PlacementLaws.{member_at, change_after-at, filter-put_after}
use Rattle.rga_ops.proofs.SpliceLaws.{same_characters, characters_with}
use Rattle.rga_ops.proofs.NewestLaws.{newest_element, newest_absent, newest_kept, order-newest}
use Rattle.rga_ops.specs.declared.op.Op.TheVariants.{Insert}

-- what stands at an index of the visible elements is visible
pub visible_at : (c : Content) (i : ℕ) (id : Identifier) → slice_get (visible c) i ≡ Some id → (is_complete c id ≡ true) × (is_kept c id ≡ true)
visible_at c i id h = and_parts (is_complete c id) (is_kept c id) (sym (visible_elements c id) ∙ member_at (visible c) i id h)

-- the root or a complete element has no counter above the clock
pub root_or_complete_within : (c : Content) (parent : Identifier) → is_root_or_complete c parent ≡ true → parent.counter ≤ clock_of c
root_or_complete_within c parent h = grind (arith, (within_clock c).own parent, inserted_if_complete c parent)

module _ (c : Content) (id parent : Identifier) (ch : ℕ) (newer : clock_of c < id.counter) where
  abbrev d : Content
  d = join c (single (Insert id parent ch))

  -- ---- what the new content has

  pub clock-newest_falls : parent.counter ≤ id.counter → clock_of d ≡ id.counter
  clock-newest_falls falls = omega (arith, clock_insertion c id (element parent ch) (newest_absent c id newer) falls, newer)

  pub get-newest : finite_map.get d.inserted id ≡ Some (element parent ch)
  get-newest = get-inserted c id parent ch (newest_absent c id newer)

  kept_same : is_kept d ≡ is_kept c
  kept_same = λ k q. not (contains-insertion c id parent ch q k)

  -- ---- the visible elements

  pub visible-newest : (is_root parent || is_kept c parent) ≡ true → visible d ≡ put_behind parent id (visible c)
  visible-newest stays =
      visible_is d
      ∙ (λ k. filter (kept_same k) (order-newest c id newer parent ch k))
      ∙ elim (is_root parent) as (λ b. (b || is_kept c parent) ≡ true → filter (is_kept c) (cond b (id ∷ order c) (change_after parent (λ ys. id ∷ ys) (order c))) ≡ cond b (id ∷ filter (is_kept c) (order c)) (change_after parent (λ ys. id ∷ ys) (filter (is_kept c) (order c)))) [
        | true ↦ λ s. ap (λ b. cond b (id ∷ filter (is_kept c) (order c)) (filter (is_kept c) (order c))) keeps
        | false ↦ λ s. filter-put_after (is_kept c) parent id (order c) s keeps
      ] stays
      ∙ ap (put_behind parent id) (sym (visible_is c))
    where
      keeps : is_kept c id ≡ true
      keeps = ap not (newest_kept c id newer)

  -- in front of all where the parent is the root,
  pub visible-newest_front : is_root parent ≡ true → visible d ≡ id ∷ visible c
  visible-newest_front at_root =
      visible-newest (or_left (is_root parent) (is_kept c parent) at_root)
      ∙ ap (λ b. cond b (id ∷ visible c) (change_after parent (λ ys. id ∷ ys) (visible c))) at_root

  -- and else behind the parent, at its index
  pub visible-newest_at : (i : ℕ) → slice_get (visible c) i ≡ Some parent → visible d ≡ take (i + 1) (visible c) ++ id ∷ drop (i + 1) (visible c)
  visible-newest_at i h =
      let shows : (is_complete c parent ≡ true) × (is_kept c parent ≡ true) = visible_at c i parent h in
      let other : is_root parent ≡ false = grind (arith, shows.0) in
      visible-newest (or_right (is_root parent) (is_kept c parent) shows.1)
      ∙ ap (λ b. cond b (id ∷ visible c) (change_after parent (λ ys. id ∷ ys) (visible c))) other
      ∙ change_after-at parent (λ ys. id ∷ ys) (visible c) i (own_index c parent i h)

  -- ---- the text

  character_here : character d id ≡ Some ch
  character_here = ap (option_map (λ (x : Element). x.ch)) get-newest

  characters_stay : map Some (text c) ≡ map (character d) (visible c)
  characters_stay = characters_within c d (within_join c (single (Insert id parent ch)))

  pub text-newest_front : is_root parent ≡ true → text d ≡ ch ∷ text c
  text-newest_front at_root = same_characters _ _ (
      text_is d ∙ ap (map (character d)) (visible-newest_front at_root)
      ∙ (λ k. character_here k ∷ sym characters_stay k))

  pub text-newest_at : (i : ℕ) → slice_get (visible c) i ≡ Some parent → text d ≡ take (i + 1) (text c) ++ ch ∷ drop (i + 1) (text c)
  text-newest_at i h = same_characters _ _ (
      text_is d ∙ ap (map (character d)) (visible-newest_at i h)
      ∙ characters_with (character d) (i + 1) id ch (visible c) (text c) characters_stay character_here)

  -- ---- where the parent is the root or complete

  module _ (stands : is_root_or_complete c parent ≡ true) where
    lower : parent.counter ≤ clock_of c
    lower = root_or_complete_within c parent stands

    pub newest_well_formed : checked (Insert id parent ch) ≡ Ok tt
    newest_well_formed = grind (arith, newest_element c id newer, lower, newer)

    pub clock-newest : clock_of d ≡ id.counter
    clock-newest = clock-newest_falls (omega (arith, newer, lower))
