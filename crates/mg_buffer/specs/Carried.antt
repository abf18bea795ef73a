-- Places of a text that changed, by the elements that stood before them; and matches, by their own first elements.
use Rattle.std.specs.Prelude.{ℕ, ◌-◌, List, Option, Some, None, slice_get, if◌then◌else◌}
use Rattle.std.specs.FinSet as finite_set
use Rattle.std.specs.Option.{option_and_then}
use Rattle.rga_ops.specs.Identifier.{Identifier}
use Rattle.rga_ops.specs.Content.{Content}
use Rattle.rga_ops.specs.Order.{text}
use Rattle.rga_ops.specs.Places.{visible}
use Rattle.rga_doc.specs.LocalEdit.{left_of}
use Rattle.mg_plain.specs.Matches.{stands_at}
use Rattle.mg_buffer.specs.Sight.{place_of}

-- the visible element before a place: the root at the front, and past the end
abbrev pub element_before : Content → ℕ → Identifier
element_before c place = left_of (visible c) place

-- where a place of the old text goes: behind the element that stood before it
abbrev pub carried : Content → Content → ℕ → ℕ
carried old new place = place_of new (element_before old place)

-- the place of an element's character; of a deleted one, where it stood
abbrev pub character_place : Content → Identifier → ℕ
character_place c id = if finite_set.contains c.deleted id then place_of c id else place_of c id - 1

-- a place, if the pattern stands there
abbrev pub match_at_place : List ℕ → Content → ℕ → Option ℕ
match_at_place pattern c place = if stands_at pattern (text c) place then Some place else None

-- the match of a pattern, once the text changed: where its first element is, if the pattern stands there still
abbrev pub carried_match : List ℕ → Content → Content → ℕ → Option ℕ
carried_match pattern old new place = option_and_then (λ id. match_at_place pattern new (character_place new id)) (slice_get (visible old) place)
