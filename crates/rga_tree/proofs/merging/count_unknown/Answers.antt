use Rattle.std.proofs.Common.{rules, ◌≡◌, ◌+◌, Bool, true, false, cond, not, ◌&&◌, length, take, arith, refl, sym, ap, ◌∙◌}
use Rattle.std.proofs.Math.Seq.{take-length}
use Rattle.std.specs.Prelude.{Some, slice_get}
use Rattle.std.specs.Option.{option_map}
use Rattle.std.specs.Map.Iter.{deref_pair}
use Rattle.std.specs.FinSet as finite_set
use Rattle.rga_ops.specs.Identifier.{Identifier}
use Rattle.rga_ops.specs.Content.{Content, known_ids}
use Rattle.rga_tree.specs.declared.nodes.Node.{Node}
use Rattle.rga_tree.specs.Nodes.{Nodes, content_of_nodes}
use Rattle.rga_tree.proofs.MergingLaws.{means_something, unknown_ids, unknown_step, unknown_counted}
use Rattle.rga_tree.proofs.merging.count_unknown.Goals.{in-Some+then-is_known+then-not-knows, in-Some+else-is_known, else-is_known-via-then-is_known+else-not-knows, else-is_known-via-else-is_known, in_default}
use Rattle.rga_tree.proofs.merging.count_unknown.Goals as goal

pub loop-i-preserved : goal.loop-i-preserved
loop-i-preserved c =
    let ns : Nodes = c.args.others.now.entries in
    let own : Content = content_of_nodes c.args.own.now.entries in
    let step : (k : Identifier) (v : Node) (a b : Bool) → slice_get ns c.loop-i.i ≡ Some (k, v) → means_something v ≡ a → not (finite_set.contains (known_ids own) k) ≡ b → length (unknown_ids own (take (c.loop-i.i + 1) ns)) ≡ c.loop-i.count + cond (a && b) 1 0 = λ k v a b at first second.
    unknown_step own ns c.loop-i.i k v at
    ∙ (λ j. sym c.loop-i.invariant.counted j + cond (first j && second j) 1 0) in
    elim c.match-get_index.branch [
      | in_default w ↦ search rules
      | in-Some+then-is_known+then-not-knows w ↦
          let at = sym c.get_index.ensures.entry ∙ ap (option_map deref_pair) w.in-Some.is in
          let counted = step w.in-Some.id.now w.in-Some.node.now true true at (sym w.is_known.ensures ∙ w.if-is_known.true) (ap not (sym w.knows.ensures ∙ w.if-not-knows.true)) in
          record { counted = w.count-is ∙ sym counted; within = omega (arith, w.count-is, c.loop-i.invariant.within) }
      | in-Some+else-is_known w ↦
          let at = sym c.get_index.ensures.entry ∙ ap (option_map deref_pair) w.in-Some.is in
          elim w.else-is_known.branch [
            | else-is_known-via-then-is_known+else-not-knows u ↦
                let counted = step w.in-Some.id.now w.in-Some.node.now true false at (sym w.is_known.ensures ∙ u.if-is_known.true) (ap not (sym u.knows.ensures ∙ u.if-not-knows.false)) in
                record { counted = omega (arith, w.count-is, counted); within = omega (arith, w.count-is, c.loop-i.invariant.within) }
            | else-is_known-via-else-is_known u ↦
                let counted = step w.in-Some.id.now w.in-Some.node.now false (not (finite_set.contains (known_ids own) w.in-Some.id.now)) at (sym w.is_known.ensures ∙ u.if-is_known.false) refl in
                record { counted = omega (arith, w.count-is, counted); within = omega (arith, w.count-is, c.loop-i.invariant.within) }
          ]
    ]

pub returns : goal.returns
returns c =
    let ns : Nodes = c.args.others.now.entries in
    let ended : c.loop-i.i ≡ length ns = omega (arith, c.loop-i-test.false, c.loop-i.auto.i-end, c.len-i-end.ensures.len) in
    let own : Content = content_of_nodes c.args.own.now.entries in
    let counted : c.loop-i.count ≡ length (unknown_ids own ns) = c.loop-i.invariant.counted ∙ ap (λ ms. length (unknown_ids own ms)) (ap (λ n. take n ns) ended ∙ take-length ns) in
    ap (λ n. finite_set.len (known_ids own) + n) counted ∙ sym (unknown_counted own ns c.requires.others)
