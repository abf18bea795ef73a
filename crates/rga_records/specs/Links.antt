-- Elements as a linked list, in the order of their text. A node is 0 for the root, and for a record one more than its
-- index among all, which rise by identifier.
use Rattle.std.specs.Prelude.{◌≡◌, ◌≤◌, ◌<◌, ◌==◌, ℕ, zero, suc, Bool, true, false, not, List, [], ◌∷◌, ◌++◌, map, length, take, slice_index, slice_index_or, slice_set, Option, Some, None, SomeIff, if◌then◌else◌}
use Rattle.std.specs.Char.{IsScalar}
use Rattle.std.specs.List.{filter_map, list_any}
use Rattle.std.specs.Map.{keys_of}
use Rattle.rga_ops.specs.Identifier.{Identifier, is_id, is_root, root}
use Rattle.rga_ops.specs.Content.{IsSound}
use Rattle.rga_ops.specs.Order.{order}
use Rattle.rga_pages.specs.declared.entry.Record.{Record}
use Rattle.rga_pages.specs.Pages.{entries_in}
use Rattle.rga_records.specs.Records.{Entries, AreOrdered, content_of_records}
use Rattle.rga_records.specs.declared.linking.TheConstants.{WAITS}

-- ---- elements

-- a character that is not hidden
abbrev pub shown_if : Bool → ℕ → Option ℕ
shown_if hidden ch = if hidden then None else Some ch

-- the character of an element that is not deleted
abbrev pub shown_of : Record → Option ℕ
shown_of v = if v.deleted then None else v.ch

-- each number stands for a character, which may be none: its own, or one that is no character's
abbrev pub AreCodes : List ℕ → List (Option ℕ) → Type 0
AreCodes [] [] = Unit {0}
AreCodes [] (o ∷ os) = ⊥
AreCodes (x ∷ xs) [] = ⊥
AreCodes (x ∷ xs) (o ∷ os) = SomeIff o (IsScalar x) x × AreCodes xs os

-- ---- links

-- the identifier's node, if it is the root or one of these
abbrev pub IsNodeOf : Identifier → List Identifier → Option ℕ → Type 0
IsNodeOf id ids None = (is_root id ≡ false) × (list_any (λ x. is_id x id) ids ≡ false)
IsNodeOf id ids (Some zero) = is_root id ≡ true
IsNodeOf id ids (Some (suc i)) = (is_root id ≡ false) × (i < length ids) × (slice_index_or ids i root ≡ id)

-- from a node on, along the links, stand these elements; the last links to node 0
abbrev pub IsLinkChain : List ℕ → ℕ → List ℕ → Type 0
IsLinkChain next node [] = node ≡ 0
IsLinkChain next node (i ∷ is) = (node ≡ suc i) × (suc i < length next) × IsLinkChain next (slice_index next (suc i)) is

-- the elements of an order are linked from the root on, and all others wait
pub record AreLinked (order ids : List Identifier) (next : List ℕ) : Type 0 where
  pub chain : List ℕ
  pub counted : length next ≡ suc (length ids)
  pub linked : IsLinkChain next (slice_index next 0) chain
  pub few : length chain ≤ length ids
  pub ordered : map (λ i. slice_index_or ids i root) chain ≡ order
  pub waiting : (i : ℕ) → i < length ids → (slice_index next (suc i) == WAITS) ≡ not (list_any (λ j. j == i) chain)

-- the links with one more element: directly behind a node that does not wait, or waiting
abbrev pub with_link : Option ℕ → List ℕ → List ℕ
with_link None next = next ++ WAITS ∷ []
with_link (Some above) next =
    if slice_index next above == WAITS then next ++ WAITS ∷ []
    else slice_set next above (length next) ++ slice_index next above ∷ []

-- the characters that are shown of elements, in turn
abbrev pub chars_along : List (Option ℕ) → List ℕ → List ℕ
chars_along shown chain = filter_map (λ i. slice_index_or shown i None) chain

-- ---- records

-- the identifiers rise, and what the records stand for is sound
pub record AreSoundRecords (es : Entries) : Type 0 where
  pub ordered : AreOrdered es
  pub sound : IsSound (content_of_records es)

-- the elements of the records are kept and linked in their order; a record without one waits, and nothing is shown of it
pub record AreLinks (es : Entries) (shown next : List ℕ) : Type 0 where
  pub each_shown : AreCodes shown (map (λ e. shown_of e.1) es)
  pub linked : AreLinked (order (content_of_records es)) (keys_of es) next

-- of some pages from the first one on, the node of the first entry
abbrev pub AreHeads : List Entries → List ℕ → Type 0
AreHeads pages heads = (p : ℕ) → p < length heads → slice_index heads p ≡ suc (length (entries_in (take p pages)))
