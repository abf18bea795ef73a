-- What a tree store keeps: a node for each identifier that is inserted, deleted or named as a parent.
use Rattle.std.specs.Prelude.{◌≡◌, ◌&&◌, ◌||◌, not, ℕ, Bool, List, [], filter, is_some, Option, Some, None, if◌then◌else◌, slice_get}
use Rattle.std.specs.List.{IsDistinct, filter_map}
use Rattle.std.specs.Map.{lookup, keys_of}
use Rattle.std.specs.Option.{option_map, option_map_or}
use Rattle.std.specs.FinMap as finite_map
use Rattle.std.specs.FinSet as finite_set
use Rattle.rga_ops.specs.Identifier.{Identifier, is_id}
use Rattle.rga_ops.specs.Content.{Element, element, Content}
use Rattle.rga_tree.specs.declared.nodes.Node.{Node}
use Rattle.rga_store.specs.Rising.{IsRising}
use Rattle.rga_tree.specs.Children.{has_child, children_in}

abbrev pub Nodes : Type 0
Nodes = List (Identifier × Node)

-- the element of a node, if it has one
abbrev pub element_in : Node → Option Element
element_in v = option_map (λ x. element x.0 x.1) v.element

abbrev pub insertion_in : Identifier × Node → Option (Identifier × Element)
insertion_in n = option_map (λ x. (n.0, x)) (element_in n.1)

-- the identifiers of the nodes that pass the test
abbrev pub ids_where : (Node → Bool) → Nodes → List Identifier
ids_where test ns = keys_of (filter (λ n. test n.1) ns)

abbrev pub inserted_ids : Nodes → List Identifier
inserted_ids = ids_where (λ v. is_some v.element)

abbrev pub marked_ids : Nodes → List Identifier
marked_ids = ids_where (λ v. v.deleted)

-- whether a node is marked, or else whether it has an element
abbrev pub is_picked : Bool → Node → Bool
is_picked marked v = if marked then v.deleted else is_some v.element

-- what the nodes stand for; one with neither an element nor a mark stands for nothing
abbrev pub content_of_nodes : Nodes → Content
content_of_nodes ns = record {
  inserted = finite_map.from_entries (filter_map insertion_in ns);
  deleted = finite_set.from_list (marked_ids ns);
}

-- the children that a node keeps, if it is there
abbrev pub children_at : Option Node → List Identifier
children_at o = option_map_or (λ v. children_in v.children) o []

-- the children under a parent
abbrev pub children_of : Nodes → Identifier → List Identifier
children_of ns p = children_at (lookup (is_id p) ns)

-- under each parent the same children
abbrev pub KeepsChildren : Nodes → Nodes → Type 0
KeepsChildren old new = (p : Identifier) → children_of new p ≡ children_of old p

-- the same children, and one more under its parent
abbrev pub AddsChildUnder : Nodes → Nodes → Identifier → Identifier → Type 0
AddsChildUnder old new parent id = (p k : Identifier) →
    has_child (children_of new p) k ≡ (has_child (children_of old p) k || (is_id parent p && is_id id k))

-- the same children, but one under its parent
abbrev pub RemovesChildUnder : Nodes → Nodes → Identifier → Identifier → Type 0
RemovesChildUnder old new parent id = (p k : Identifier) →
    has_child (children_of new p) k ≡ (has_child (children_of old p) k && not (is_id parent p && is_id id k))

-- under each parent the children rise
abbrev pub AreRising : Nodes → Type 0
AreRising ns = (p : Identifier) → IsRising (children_of ns p)

-- the character of a node that is inserted and not deleted
abbrev pub char_at : Option Node → Option ℕ
char_at None = None
char_at (Some v) = if v.deleted then None else option_map (λ x. x.1) v.element

-- no identifier has two nodes
abbrev pub AreDistinctNodes : Nodes → Type 0
AreDistinctNodes ns = IsDistinct is_id (keys_of ns)

-- the node at that index is the identifier's
abbrev pub StandsAt : Nodes → ℕ → Identifier → Type 0
StandsAt ns index id = slice_get (keys_of ns) index ≡ Some id

-- each node stays at its index
abbrev pub KeepsIndexes : Nodes → Nodes → Type 0
KeepsIndexes old new = (i : ℕ) (id : Identifier) → StandsAt old i id → StandsAt new i id
