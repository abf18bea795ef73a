-- The children of each parent, as a tree store keeps them.
use Rattle.std.specs.Prelude.{◌≡◌, ◌&&◌, ◌||◌, Bool, not, List, filter, find, Option}
use Rattle.std.specs.Ordering.{is_lt}
use Rattle.std.specs.List.{list_any}
use Rattle.rga_ops.specs.Identifier.{Identifier, id_cmp, is_id}
use Rattle.rga_tree.specs.declared.child_list.ChildList.{ChildList}
use Rattle.rga_tree.specs.declared.child_list.ChildList.TheVariants.{Few, Many}

abbrev pub has_child : List Identifier → Identifier → Bool
has_child ks k = list_any (λ x. is_id x k) ks

-- the same children, and one more
abbrev pub AddsChild : List Identifier → List Identifier → Identifier → Type 0
AddsChild old new id = (k : Identifier) → has_child new k ≡ (has_child old k || is_id id k)

-- the same children, but one
abbrev pub RemovesChild : List Identifier → List Identifier → Identifier → Type 0
RemovesChild old new id = (k : Identifier) → has_child new k ≡ (has_child old k && not (is_id id k))

-- the children in a list, whichever form it has
abbrev pub children_in : ChildList → List Identifier
children_in (Few list) = list.items
children_in (Many set) = set.keys

-- the others
abbrev pub others_than : Identifier → List Identifier → List Identifier
others_than id = filter (λ x. not (is_id x id))

-- the first of them that is newer, which is the least where they rise
abbrev pub next_newer : Identifier → List Identifier → Option Identifier
next_newer id = find (λ k. is_lt (id_cmp id k))
