-- What is read from the entries of a flat store is what its content shows.
use Rattle.std.proofs.Common.{◌≡◌, ◌+◌, false, ◌||◌, suc, List, [], ◌∷◌, length, filter, refl, sym, ap, ◌∙◌, arith}
use Rattle.std.specs.List.{list_any, filter_map, AllByRecursion}
use Rattle.std.specs.FinMap as finite_map
use Rattle.rga_ops.specs.Identifier.{Identifier, is_id, is_root}
use Rattle.rga_ops.specs.Content.{Content}
use Rattle.rga_ops.specs.Order.{order, waiting, text, shown}
use Rattle.rga_ops.specs.Places.{is_visible, visible, place}
use Rattle.rga_ops.specs.Places as places
use Rattle.rga_ops.proofs.VisibleLaws.{is_kept, visible_is, place_is}
use Rattle.rga_ops.proofs.WaitingLaws.{ordered_and_waiting}
use Rattle.rga_sequence.specs.declared.entry.Entry.{Entry}
use Rattle.rga_sequence.specs.Entries.{ids, has, entries_up_to, visible_entries, visible_ids, visible_text, place_in}
use Rattle.rga_store.proofs.StepLaws.{len-keys}
use Rattle.rga_flat.specs.Flat.{IsEntryOf}

-- the test of either list
has_among : (k : Identifier) (es : List Entry) → list_any (λ x. is_id x k) (ids es) ≡ has k es
has_among k [] = refl
has_among k (e ∷ es) = ap (λ b. is_id e.id k || b) (has_among k es)

ids_up_to : (k : Identifier) (es : List Entry) → places.up_to k (ids es) ≡ ids (entries_up_to k es)
ids_up_to k [] = refl
ids_up_to k (e ∷ es) = grind (arith, ids_up_to k es)

length_ids : (es : List Entry) → length (ids es) ≡ length es
length_ids [] = refl
length_ids (e ∷ es) = ap suc (length_ids es)

module _ (c : Content) where
  text_in : (es : List Entry) → AllByRecursion (IsEntryOf c) es → visible_text es ≡ filter_map (shown c) (ids es)
  text_in [] h = refl
  text_in (e ∷ es) h = grind (arith, text_in es h.1)

  kept_in : (es : List Entry) → AllByRecursion (IsEntryOf c) es → visible_ids es ≡ filter (is_kept c) (ids es)
  kept_in [] h = refl
  kept_in (e ∷ es) h = grind (arith, kept_in es h.1, is_kept c)

  all_up_to : (k : Identifier) (es : List Entry) → AllByRecursion (IsEntryOf c) es → AllByRecursion (IsEntryOf c) (entries_up_to k es)
  all_up_to k [] h = tt
  all_up_to k (e ∷ es) h = grind (arith, all_up_to k es h.1)

  module _ (es : List Entry) (listed : ids es ≡ order c) (all : AllByRecursion (IsEntryOf c) es) where
    pub text_shown : visible_text es ≡ text c
    text_shown = text_in es all ∙ ap (filter_map (shown c)) listed

    pub visible_shown : visible_ids es ≡ visible c
    visible_shown = kept_in es all ∙ ap (filter (is_kept c)) listed ∙ sym (visible_is c)

    pub place_shown : (id : Identifier) → is_root id ≡ false → place_in id es ≡ place c id
    place_shown id proper =
        grind (arith, has_among id es, place_is c id proper, length_ids (visible_entries (entries_up_to id es)), kept_in (entries_up_to id es) (all_up_to id es all), ids_up_to id es)

    pub all_listed : length es + length (waiting c) ≡ finite_map.len c.inserted
    all_listed = ap (λ n. n + length (waiting c)) (sym (length_ids es) ∙ ap length listed) ∙ ordered_and_waiting c ∙ len-keys c
