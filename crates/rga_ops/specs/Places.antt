-- The visible elements of a content, and how many of them stand up to an element.
use Rattle.std.specs.Prelude.{ℕ, ◌&&◌, Bool, not, List, [], ◌∷◌, filter, length, Option, Some, None, if◌then◌else◌}
use Rattle.std.specs.Option.{option_map}
use Rattle.std.specs.FinMap as finite_map
use Rattle.std.specs.FinSet as finite_set
use Rattle.rga_ops.specs.Identifier.{Identifier, is_id, is_root}
use Rattle.rga_ops.specs.Content.{Content}
use Rattle.rga_ops.specs.RootPath.{is_complete}
use Rattle.rga_ops.specs.Order.{order}

-- an element is visible: it is complete, and it is not deleted
abbrev pub is_visible : Content → Identifier → Bool
is_visible c id = is_complete c id && not (finite_set.contains c.deleted id)

-- the visible elements in order
abbrev pub visible : Content → List Identifier
visible c = filter (is_visible c) (order c)

-- the character of an element, if it is inserted
abbrev pub character : Content → Identifier → Option ℕ
character c id = option_map (λ x. x.ch) (finite_map.get c.inserted id)

-- the list from its front to the identifier, which is the last of it
abbrev pub up_to : Identifier → List Identifier → List Identifier
up_to id [] = []
up_to id (x ∷ xs) = if is_id x id then x ∷ [] else x ∷ up_to id xs

-- how many visible elements are the element or stand before it; 0 for the root, and None for what is neither the root
-- nor complete
abbrev pub place : Content → Identifier → Option ℕ
place c id =
    if is_root id then Some 0
    else if is_complete c id then Some (length (filter (is_visible c) (up_to id (order c))))
    else None
