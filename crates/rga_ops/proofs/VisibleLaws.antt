-- The visible elements: which they are, that the text is of them, and how many stand up to an element.
use Rattle.std.proofs.Common.{◌≡◌, ℕ, ◌+◌, suc, zero, Bool, true, false, cond, not, ◌&&◌, List, [], ◌∷◌, map, filter, length, position, refl, sym, ap, ◌∙◌, arith}
use Rattle.std.specs.Prelude.{Some, None, ◌↔◌}
use Rattle.std.specs.Option.{option_map}
use Rattle.std.specs.List.{list_any, filter_map, AllByRecursion, IsDistinct, slice_get}
use Rattle.std.specs.FinMap as finite_map
use Rattle.std.specs.FinSet as finite_set
use Rattle.std.proofs.lemmas.Bool.{and_parts}
use Rattle.std.proofs.lemmas.Bool.Decides.{nat_tests}
use Rattle.std.proofs.lemmas.List.{length-map}
use Rattle.std.proofs.lemmas.Option.{same_Some, none-some}
use Rattle.rga_ops.specs.Identifier.{Identifier, is_root, is_id}
use Rattle.rga_ops.specs.Content.{Element, Content, IsWithin}
use Rattle.rga_ops.specs.RootPath.{is_complete}
use Rattle.rga_ops.specs.Order.{order, shown, text}
use Rattle.rga_ops.specs.Places.{is_visible, visible, character, up_to, place}
use Rattle.rga_ops.proofs.IdentifierLaws.{is, same_id, is_id-same, is_id-is, is_id-itself, is_swap, ids_total}
use Rattle.rga_ops.proofs.PathLaws.{is_complete-iff, not_complete_root, inserted_if_complete}
use Rattle.rga_ops.proofs.MemberLaws.{all_map, all_members, filter_alike, distinct_filter}
use Rattle.rga_ops.proofs.OrderLaws.{order_list, order_distinct}
use Rattle.std.proofs.lemmas.Map.Made.{is_member-filter}
use Rattle.std.specs.Cmp.{eq_by_cmp_equiv}

-- ---- the test of an element of the order

-- whether an identifier is not deleted
abbrev pub is_kept : Content → Identifier → Bool
is_kept c id = not (finite_set.contains c.deleted id)

pub order_complete : (c : Content) → AllByRecursion (λ id. is_complete c id ≡ true) (order c)
order_complete c = all_members (λ id. is_complete c id ≡ true) (order c) (λ id m. sym ((order_list c).elements id) ∙ m)

visible_among : (c : Content) (xs : List Identifier) → AllByRecursion (λ id. is_complete c id ≡ true) xs → filter (is_visible c) xs ≡ filter (is_kept c) xs
visible_among c xs h = filter_alike (is_visible c) (is_kept c) xs (all_map (λ id. is_complete c id ≡ true) (λ id. is_visible c id ≡ is_kept c id) (λ id complete. λ k. complete k && is_kept c id) xs h)

-- the visible elements are those of the order that are not deleted
pub visible_is : (c : Content) → visible c ≡ filter (is_kept c) (order c)
visible_is c = visible_among c (order c) (order_complete c)

-- ---- the text

characters_among : (c : Content) (xs : List Identifier) → AllByRecursion (λ id. is_complete c id ≡ true) xs → map Some (filter_map (shown c) xs) ≡ map (character c) (filter (is_kept c) xs)
characters_among c [] h = refl
characters_among c (x ∷ xs) h = grind (arith, inserted_if_complete c x h.0, characters_among c xs h.1)

-- the text has the characters of the visible elements
pub text_is : (c : Content) → map Some (text c) ≡ map (character c) (visible c)
text_is c = characters_among c (order c) (order_complete c) ∙ ap (map (character c)) (sym (visible_is c))

pub text_long : (c : Content) → length (text c) ≡ length (visible c)
text_long c = sym (length-map (text c) Some) ∙ ap length (text_is c) ∙ length-map (visible c) (character c)

-- ---- which elements are visible

pub filtered : (p : Identifier → Bool) (id : Identifier) (xs : List Identifier) → list_any (is id) (filter p xs) ≡ (list_any (is id) xs && p id)
filtered p id xs = is_member-filter (eq_by_cmp_equiv ids_total) p id (λ x t. ap p (same_id id x t)) xs

pub visible_elements : (c : Content) (id : Identifier) → list_any (is id) (visible c) ≡ is_visible c id
visible_elements c id = grind (arith, filtered (is_visible c) id (order c), (order_list c).elements id)

-- ---- a larger content

-- the visible elements keep their characters in a larger content
pub characters_within : (c d : Content) → IsWithin c d → map Some (text c) ≡ map (character d) (visible c)
characters_within c d w = text_is c ∙ among (visible c) (all_members (λ q. character c q ≡ character d q) (visible c) same)
  where
    among : (xs : List Identifier) → AllByRecursion (λ q. character c q ≡ character d q) xs → map (character c) xs ≡ map (character d) xs
    among [] h = refl
    among (x ∷ xs) h = λ k. h.0 k ∷ among xs h.1 k

    same : (q : Identifier) → list_any (is q) (visible c) ≡ true → character c q ≡ character d q
    same q m =
        let complete : is_complete c q ≡ true = (and_parts (is_complete c q) (is_kept c q) (sym (visible_elements c q) ∙ m)).0 in
        let at : (x : Element) × (finite_map.get c.inserted q ≡ Some x) = inserted_if_complete c q complete in
        ap (option_map (λ (x : Element). x.ch)) (at.1 ∙ sym (w.inserted q at.0 at.1))

-- ---- places

any_id : (id : Identifier) (xs : List Identifier) → list_any (λ x. is_id x id) xs ≡ list_any (is id) xs
any_id id xs = ap (λ (p : Identifier → Bool). list_any p xs) (λ k x. is_id-same x id k)

complete_up_to : (c : Content) (id : Identifier) (xs : List Identifier) → AllByRecursion (λ y. is_complete c y ≡ true) xs → AllByRecursion (λ y. is_complete c y ≡ true) (up_to id xs)
complete_up_to c id [] h = tt
complete_up_to c id (x ∷ xs) h = grind (arith, complete_up_to c id xs h.1)

-- an identifier is complete where it is in the order
pub complete_is : (c : Content) (id : Identifier) → is_complete c id ≡ list_any (λ x. is_id x id) (order c)
complete_is c id = sym ((order_list c).elements id) ∙ sym (any_id id (order c))

-- the place, by the order alone
pub place_is : (c : Content) (id : Identifier) → is_root id ≡ false → place c id ≡ cond (list_any (λ x. is_id x id) (order c)) (Some (length (filter (is_kept c) (up_to id (order c))))) None
place_is c id other = grind (arith, complete_is, visible_among, complete_up_to, order_complete)

pub no_place : (c : Content) (id : Identifier) → (place c id ≡ None) ↔ ((is_root id ≡ false) × (is_complete c id ≡ false))
no_place c id = (λ h. grind arith, λ h. grind arith)

-- ---- indices in the text

pub position_here : (p : Identifier → Bool) (x : Identifier) (xs : List Identifier) → p x ≡ true → position p (x ∷ xs) ≡ Some 0
position_here p x xs h = grind (arith, nat_tests)

pub position_later : (p : Identifier → Bool) (x : Identifier) (xs : List Identifier) → p x ≡ false → position p (x ∷ xs) ≡ option_map (λ n. suc n) (position p xs)
position_later p x xs h = grind (arith, nat_tests)

-- what a list does not have is at no index of it
absent : (id : Identifier) (xs : List Identifier) → list_any (is id) xs ≡ false → position (λ x. is_id x id) xs ≡ None
absent id [] h = refl
absent id (x ∷ xs) h = grind (arith, absent id xs, is_id-same x id, position_later (λ y. is_id y id) x xs)

-- an index of a filtered list: so many pass up to there
counted : (p : Identifier → Bool) (id : Identifier) (xs : List Identifier) (i : ℕ) → position (λ x. is_id x id) (filter p xs) ≡ Some i → length (filter p (up_to id xs)) ≡ i + 1
counted p id [] i h = absurd (none-some _ h)
counted p id (x ∷ xs) i h = grind (
  arith,
  counted p id xs,
  is_id-is x id,
  position_here (λ y. is_id y id) x (filter p xs),
  position_later (λ y. is_id y id) x (filter p xs),
  absent id (filter p xs),
  filtered p id xs,
)

-- the place of a visible element is one more than its index
pub place_at : (c : Content) (id : Identifier) (i : ℕ) → position (λ x. is_id x id) (visible c) ≡ Some i → place c id ≡ Some (i + 1)
place_at c id i h = grind (arith, visible_elements, is, and_parts, not_complete_root, is_complete-iff, counted, none-some, absent)

-- ---- each visible element stands at one index

pub visible_distinct : (c : Content) → IsDistinct is (visible c)
visible_distinct c = distinct_filter (is_visible c) (order c) (order_distinct c (order c) (order_list c).in_order)

pub own_index : (c : Content) (id : Identifier) (i : ℕ) → slice_get (visible c) i ≡ Some id → position (λ x. is_id x id) (visible c) ≡ Some i
unfolding IsDistinct
own_index c id i h = index_of id (visible c) i (visible_distinct c) h
  where
    apart : (x id : Identifier) (xs : List Identifier) (i : ℕ) → AllByRecursion (λ y. is x y ≡ false) xs → slice_get xs i ≡ Some id → is x id ≡ false
    apart x id [] i a h = absurd (none-some _ h)
    apart x id (y ∷ ys) zero a h = ap (is x) (sym (same_Some y id h)) ∙ a.0
    apart x id (y ∷ ys) (suc i) a h = apart x id ys i a.1 h

    index_of : (id : Identifier) (xs : List Identifier) (i : ℕ) → IsDistinct is xs → slice_get xs i ≡ Some id → position (λ x. is_id x id) xs ≡ Some i
    index_of id [] i d h = absurd (none-some _ h)
    index_of id (x ∷ xs) zero d h = position_here (λ y. is_id y id) x xs (ap (λ y. is_id y id) (same_Some x id h) ∙ is_id-itself id)
    index_of id (x ∷ xs) (suc i) d h =
        position_later (λ y. is_id y id) x xs (is_id-same x id ∙ is_swap id x ∙ apart x id xs i d.0 h)
        ∙ ap (option_map (λ n. suc n)) (index_of id xs i d.1 h)
