use Rattle.std.proofs.Common.{◌≡◌, ◌+◌, ◌≤◌, true, length, is_some, refl, sym, ap, ◌∙◌, arith}
use Rattle.std.specs.List.{list_any}
use Rattle.std.specs.Map.{keys_of}
use Rattle.rga_ops.specs.Identifier.{root}
use Rattle.rga_ops.specs.Order.{waiting}
use Rattle.rga_ops.proofs.IdentifierLaws.{is}
use Rattle.rga_store.specs.Kept.{Kept}
use Rattle.rga_tree.specs.Nodes.{Nodes, content_of_nodes}
use Rattle.rga_tree.proofs.RootedLaws.{seen_there, none_waits}
use Rattle.rga_store.proofs.CountedLaws.{few_inserted}
use Rattle.rga_tree.proofs.tree_store.TreeStore.is_rooted.Goals as goal

pub overflow_add-self-inside : goal.overflow_add-self-inside
overflow_add-self-inside c = let few = few_inserted _ _ _ _ _ c.self.invariant.counted in omega arith

pub returns : goal.returns
returns c = λ h.
    let ns : Nodes = c.self.inside.nodes.entries in
    let rooted : list_any (is root) (keys_of ns) ≡ true = seen_there is_some refl root ns (sym c.contains_key.ensures ∙ h) in
    let many : length ns ≡ c.self.inside.inserted + 1 = omega (arith, c.len.ensures.len, c.if-len-self.false) in
    ap (λ (v : Kept). waiting v.content) (sym c.self.view_is)
    ∙ none_waits ns (content_of_nodes ns) refl c.self.invariant.apart c.self.invariant.family c.self.invariant.counted.sound
    (many ∙ ap (λ n. n + 1) c.self.invariant.counted.inserted) rooted
