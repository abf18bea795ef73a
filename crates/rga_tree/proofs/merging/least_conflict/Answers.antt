use Rattle.std.proofs.Common.{rules, ◌≡◌, ◌+◌, Bool, length, arith, sym, ap, ◌∙◌, subst}
use Rattle.std.specs.Prelude.{Some, slice_get}
use Rattle.std.specs.Option.{option_map}
use Rattle.std.specs.Map.Iter.{deref_pair}
use Rattle.std.proofs.lemmas.Map.Entries.{lookup_from_place}
use Rattle.rga_ops.specs.Identifier.{Identifier}
use Rattle.rga_ops.specs.Content.{Content}
use Rattle.rga_ops.specs.ListAnswer.{is_conflict}
use Rattle.rga_tree.specs.declared.nodes.Node.{Node}
use Rattle.rga_tree.specs.Nodes.{Nodes, content_of_nodes}
use Rattle.rga_tree.proofs.NodeLaws.{ids_equivalence}
use Rattle.rga_tree.proofs.MergingLaws.{IsLeastSoFar, conflict_at, least_passed, least_lowered, least_found}
use Rattle.rga_tree.proofs.merging.least_conflict.Goals.{in-Some+then-conflicts, in-Some+else-conflicts, in_default}
use Rattle.rga_tree.proofs.merging.least_conflict.Goals as goal

pub loop-i-preserved : goal.loop-i-preserved
loop-i-preserved c =
    let ns : Nodes = c.args.others.now.entries in
    let own : Content = content_of_nodes c.args.own.now.entries in
    let p : Identifier → Bool = is_conflict (content_of_nodes ns) own in
    elim c.match-get_index.branch [
      | in_default w ↦ search rules
      | in-Some+then-conflicts w ↦
          let k : Identifier = w.in-Some.id.now in
          let v : Node = w.in-Some.node.now in
          let at : slice_get ns c.loop-i.i ≡ Some (k, v) = sym c.get_index.ensures.entry ∙ ap (option_map deref_pair) w.in-Some.is in
          let passes = conflict_at own ns c.requires.others k v (lookup_from_place ids_equivalence ns c.loop-i.i k v c.requires.others at) ∙ sym w.conflicts.ensures ∙ w.if-conflicts.true in
          subst (IsLeastSoFar p ns (c.loop-i.i + 1)) (sym w.least-is)
          (least_lowered p ns c.loop-i.i k v at c.loop-i.least w.lesser.result passes w.lesser.ensures.either w.lesser.ensures.within_first w.lesser.ensures.within_second c.loop-i.invariant)
      | in-Some+else-conflicts w ↦
          let k : Identifier = w.in-Some.id.now in
          let v : Node = w.in-Some.node.now in
          let at : slice_get ns c.loop-i.i ≡ Some (k, v) = sym c.get_index.ensures.entry ∙ ap (option_map deref_pair) w.in-Some.is in
          let passes = conflict_at own ns c.requires.others k v (lookup_from_place ids_equivalence ns c.loop-i.i k v c.requires.others at) ∙ sym w.conflicts.ensures ∙ w.if-conflicts.false in
          subst (IsLeastSoFar p ns (c.loop-i.i + 1)) (sym w.least-is) (least_passed p ns c.loop-i.i k v at c.loop-i.least passes c.loop-i.invariant)
    ]

pub returns : goal.returns
returns c =
    let ns : Nodes = c.args.others.now.entries in
    let ended : c.loop-i.i ≡ length ns = omega (arith, c.loop-i-test.false, c.loop-i.auto.i-end, c.len-i-end.ensures.len) in
    let own : Content = content_of_nodes c.args.own.now.entries in
    least_found own ns c.requires.others c.loop-i.least
    (subst (λ n. IsLeastSoFar (is_conflict (content_of_nodes ns) own) ns n c.loop-i.least) ended c.loop-i.invariant)
