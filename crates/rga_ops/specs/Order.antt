-- The order of a content's elements, and its text.
use Rattle.std.specs.Prelude.{◌≡◌, ℕ, List, [], ◌∷◌, filter, not, Option, Some, None, if◌then◌else◌}
use Rattle.std.specs.Option.{option_map}
use Rattle.std.specs.List.{filter_map, list_any}
use Rattle.std.specs.Ordering.{eq_by_cmp}
use Rattle.std.specs.declared.cmp.Ordering.TheVariants.{Less}
use Rattle.std.specs.FinMap as finite_map
use Rattle.std.specs.FinSet as finite_set
use Rattle.std.specs.FinMap.{FinMap}
use Rattle.rga_ops.specs.Identifier.{Identifier, id_cmp, is_root}
use Rattle.rga_ops.specs.Content.{Content}
use Rattle.rga_ops.specs.RootPath.{Path, root_path, is_complete, path_cmp}

-- ---- as a relation

-- the first element's root path is before the second's
pub record Precedes (c : Content) (a b : Identifier) : Type 0 where
  pub here : Path
  pub there : Path
  pub path_here : root_path c a ≡ Some here
  pub path_there : root_path c b ≡ Some there
  pub before : path_cmp here there ≡ Less

-- each is before its successor
abbrev pub IsInOrder : Content → List Identifier → Type 0
IsInOrder c [] = Unit {0}
IsInOrder c (x ∷ []) = Unit {0}
IsInOrder c (x ∷ y ∷ xs) = Precedes c x y × IsInOrder c (y ∷ xs)

-- the complete elements and no others, each before its successor
pub record IsOrderList (c : Content) (xs : List Identifier) : Type 0 where
  pub elements : (id : Identifier) → list_any (eq_by_cmp id_cmp id) xs ≡ is_complete c id
  pub in_order : IsInOrder c xs

-- ---- as a function

-- a complete element under its root path
abbrev pub placed : Content → Identifier → Option (Path × Identifier)
placed c id = if is_root id then None else option_map (λ p. (p, id)) (root_path c id)

-- the complete elements, each under its root path
abbrev pub by_path : Content → FinMap path_cmp Identifier
by_path c = finite_map.from_entries (filter_map (placed c) (finite_map.keys c.inserted))

-- each complete element once, in the order of the root paths
abbrev pub order : Content → List Identifier
order c = finite_map.values (by_path c)

-- the inserted elements that wait for an ancestor, by rising identifier
abbrev pub waiting : Content → List Identifier
waiting c = filter (λ id. not (is_complete c id)) (finite_map.keys c.inserted)

-- ---- text

-- the character of an element that is not deleted
abbrev pub shown : Content → Identifier → Option ℕ
shown c id = if finite_set.contains c.deleted id then None else option_map (λ x. x.ch) (finite_map.get c.inserted id)

-- the characters of the elements that are not deleted, in order
abbrev pub text : Content → List ℕ
text c = filter_map (shown c) (order c)
