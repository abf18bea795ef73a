-- What waits: under an identifier the children that wait for it.
use Rattle.std.specs.Prelude.{◌≡◌, ◌⊎◌, ◌&&◌, not, Bool, true, false, List, [], is_some, Vec}
use Rattle.std.specs.declared.alloc.Global.{Global}
use Rattle.std.specs.Option.{option_map_or}
use Rattle.std.specs.Ordering.{eq_by_cmp}
use Rattle.std.specs.BTreeMap.{BTreeMap, get}
use Rattle.std.specs.BTreeSet.{BTreeSet, contains}
use Rattle.std.specs.FinMap as finite_map
use Rattle.rga_ops.specs.Identifier.{Identifier, id_cmp}
use Rattle.rga_ops.specs.Content.{Content}

-- lists of identifiers under identifiers
abbrev pub Waiting : Type 0
Waiting = BTreeMap Identifier (Vec Identifier Global)

-- the children in the list under an identifier
abbrev pub under : Waiting → Identifier → List Identifier
under w p = option_map_or (λ v. v.items) (get id_cmp w p) []

-- whether an identifier has a list, be it empty
abbrev pub has_list : Waiting → Identifier → Bool
has_list w p = is_some (get id_cmp w p)

-- under each identifier the same
abbrev pub KeepsUnder : Waiting → Waiting → Type 0
KeepsUnder old new = (p : Identifier) → under new p ≡ under old p

-- what has a list keeps it
abbrev pub StayListed : Waiting → Waiting → Type 0
StayListed old new = (p : Identifier) → has_list old p ≡ true → has_list new p ≡ true

-- and of the others none but one may get one
abbrev pub KeepsLists : Waiting → Waiting → Identifier → Type 0
KeepsLists old new id = StayListed old new × ((p : Identifier) → eq_by_cmp id_cmp id p ≡ false → has_list new p ≡ has_list old p)

-- whether an identifier has a list that is not done with
abbrev pub is_listed : Waiting → BTreeSet Identifier → Identifier → Bool
is_listed w done p = has_list w p && not (contains id_cmp done p)

-- lists are done with, and of these no other
pub record SettlesLists (w : Waiting) (old new : BTreeSet Identifier) : Type 0 where
  pub grows : (p : Identifier) → contains id_cmp old p ≡ true → contains id_cmp new p ≡ true
  pub within : (p : Identifier) → contains id_cmp new p ≡ true → (contains id_cmp old p ≡ true) ⊎ (has_list w p ≡ true)

-- what is done with anew is inserted
abbrev pub AreInserted : Content → BTreeSet Identifier → BTreeSet Identifier → Type 0
AreInserted c old new = (p : Identifier) → contains id_cmp new p ≡ true → (contains id_cmp old p ≡ true) ⊎ (finite_map.contains_key c.inserted p ≡ true)
