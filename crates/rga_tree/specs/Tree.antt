-- What is true of the nodes and the counts of each tree store.
use Rattle.std.specs.Prelude.{◌≡◌, ℕ, List}
use Rattle.rga_ops.specs.Identifier.{Identifier}
use Rattle.rga_ops.specs.Content.{Content}
use Rattle.rga_store.specs.Rising.{IsRising}
use Rattle.rga_store.specs.Child.{is_child}
use Rattle.rga_store.specs.Counted.{IsCounted}
use Rattle.rga_tree.specs.Children.{has_child}
use Rattle.rga_tree.specs.Nodes.{Nodes, AreDistinctNodes, content_of_nodes, children_of}

-- under each parent, inserted or not, stand exactly the insertions that name it, and they rise
pub record IsFamily (c : Content) (family : Identifier → List Identifier) : Type 0 where
  pub children : (p k : Identifier) → has_child (family p) k ≡ is_child c p k
  pub rising : (p : Identifier) → IsRising (family p)

-- the children in the nodes are those of their content
abbrev pub HasFamilies : Nodes → Type 0
HasFamilies ns = IsFamily (content_of_nodes ns) (children_of ns)

-- no identifier has two nodes, the children are those of the content, and it is counted
pub record IsTree (nodes : Nodes) (latest insertions identifiers limit : ℕ) : Type 0 where
  pub apart : AreDistinctNodes nodes
  pub family : HasFamilies nodes
  pub counted : IsCounted (content_of_nodes nodes) latest insertions identifiers limit
