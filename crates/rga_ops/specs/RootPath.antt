-- Root paths, which elements are complete, and which path is before which.
use Rattle.std.specs.Prelude.{◌≡◌, ℕ, zero, suc, ◌&&◌, not, Bool, false, true, List, [], ◌∷◌, ◌++◌, Option, Some, None, is_some, if◌then◌else◌, ◌⊎◌}
use Rattle.std.specs.Option.{option_map, option_and_then}
use Rattle.std.specs.Cmp.Lexicographic.{slice_cmp}
use Rattle.std.specs.declared.cmp.Ordering.{Ordering}
use Rattle.std.specs.FinMap as finite_map
use Rattle.std.specs.FinMap.{FinMap}
use Rattle.rga_ops.specs.Identifier.{Identifier, id_cmp, is_root, IsLarger}
use Rattle.rga_ops.specs.Content.{Element, Content}

-- the identifiers from the first below the root down to an element
abbrev pub Path : Type 0
Path = List Identifier

-- ---- as relations

-- an element is complete: it is inserted, and its parent is the root or is complete
pub data IsComplete (c : Content) : Identifier → Type 0 where
  below_root : {id : Identifier} (x : Element) → is_root id ≡ false → finite_map.get c.inserted id ≡ Some x → is_root x.parent ≡ true → IsComplete c id
  below_element : {id : Identifier} (x : Element) → is_root id ≡ false → finite_map.get c.inserted id ≡ Some x → IsComplete c x.parent → IsComplete c id

-- the root's path is empty; that of a complete element is its parent's, and then itself
pub data IsRootPath (c : Content) : Identifier → Path → Type 0 where
  at_root : {id : Identifier} {p : Path} → is_root id ≡ true → p ≡ [] → IsRootPath c id p
  below : {id : Identifier} {p : Path} (x : Element) (q : Path) → is_root id ≡ false → finite_map.get c.inserted id ≡ Some x → IsRootPath c x.parent q → p ≡ q ++ id ∷ [] → IsRootPath c id p

-- the first path is a proper beginning of the second
abbrev pub IsProperBeginning : Path → Path → Type 0
IsProperBeginning p q = (next : Identifier) × (rest : Path) × (q ≡ p ++ next ∷ rest)

-- at the first place where they differ the first path has the larger identifier
pub record BranchesLarger (p q : Path) : Type 0 where
  pub common : Path
  pub here : Identifier
  pub there : Identifier
  pub after_here : Path
  pub after_there : Path
  pub first : p ≡ common ++ here ∷ after_here
  pub second : q ≡ common ++ there ∷ after_there
  pub larger : IsLarger here there

-- the first path is before the second: a parent stands before its children, and of siblings the newest is first
abbrev pub IsBefore : Path → Path → Type 0
IsBefore p q = IsProperBeginning p q ⊎ BranchesLarger p q

-- ---- as functions, which contracts compute with

-- the path down to an identifier, where at most that many insertions lie on it
abbrev pub path_within : ℕ → FinMap id_cmp Element → Identifier → Option Path
path_within zero inserted id = if is_root id then Some [] else None
path_within (suc n) inserted id =
    if is_root id then Some []
    else option_and_then (λ x. option_map (λ p. p ++ id ∷ []) (path_within n inserted x.parent)) (finite_map.get inserted id)

-- the root path, or none; no path has more elements than there are insertions
abbrev pub root_path : Content → Identifier → Option Path
root_path c id = path_within (finite_map.len c.inserted) c.inserted id

abbrev pub is_complete : Content → Identifier → Bool
is_complete c id = not (is_root id) && is_some (root_path c id)

-- of two identifiers the larger comes first
abbrev pub newest_first : Identifier → Identifier → Ordering
newest_first a b = id_cmp b a

-- the lexicographic order of paths: `Less` is before
abbrev pub path_cmp : Path → Path → Ordering
path_cmp = slice_cmp newest_first
