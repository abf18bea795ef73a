-- What stands before an element in the order, and what stands under it.
use Rattle.std.specs.Prelude.{◌≡◌, ℕ, List, [], ◌++◌, filter, Option, Some, if◌then◌else◌}
use Rattle.std.specs.FinMap as finite_map
use Rattle.rga_ops.specs.Identifier.{Identifier, is_root}
use Rattle.rga_ops.specs.Content.{Element, Content}
use Rattle.rga_ops.specs.RootPath.{Path, root_path}
use Rattle.rga_ops.specs.Order.{order, shown, Precedes}
use Rattle.rga_ops.specs.Places.{is_visible, up_to}

-- the order up to an element, which is the last of it; empty for the root
abbrev pub beginning : Content → Identifier → List Identifier
beginning c id = if is_root id then [] else up_to id (order c)

-- the visible elements of it
abbrev pub visible_up_to : Content → Identifier → List Identifier
visible_up_to c id = filter (is_visible c) (beginning c id)

-- the second stands under the first, or is it: its root path goes on from the first's
pub record IsUnder (c : Content) (id k : Identifier) : Type 0 where
  pub path : Path
  pub rest : Path
  pub path_first : root_path c id ≡ Some path
  pub path_second : root_path c k ≡ Some (path ++ rest)

-- of what stands under an identifier nothing stands behind this one
pub record IsLastUnder (c : Content) (id end : Identifier) : Type 0 where
  pub under : IsUnder c id end
  pub last : (k : Identifier) → IsUnder c id k → Precedes c end k → ⊥

-- an inserted element, its parent, and the character that it shows
pub record IsShownChild (c : Content) (x p : Identifier) (ch : Option ℕ) : Type 0 where
  pub element : Element
  pub found : finite_map.get c.inserted x ≡ Some element
  pub parent : element.parent ≡ p
  pub shows : ch ≡ shown c x
