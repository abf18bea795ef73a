use Rattle.std.proofs.Common.{rules, ◌≡◌, ◌+◌, Bool, true, false, cond, take, [], ◌∷◌, ◌++◌, sym, ap, ◌∙◌, append-nil, append_assoc}
use Rattle.std.specs.Prelude.{Some, slice_get}
use Rattle.std.specs.Option.{option_map}
use Rattle.std.specs.Map.Iter.{deref_pair}
use Rattle.rga_ops.specs.Identifier.{Identifier}
use Rattle.rga_tree.specs.declared.nodes.Node.{Node}
use Rattle.rga_tree.specs.Nodes.{Nodes, ids_where, is_picked}
use Rattle.rga_tree.proofs.PickedLaws.{picked_step}
use Rattle.rga_tree.proofs.operations.push_ids.Goals.{in-Some+then-is_picked+in_ok-push, in-Some+else-is_picked, in_default}
use Rattle.rga_tree.proofs.operations.push_ids.Goals as goal

pub loop-i-preserved : goal.loop-i-preserved
loop-i-preserved c =
    let ns : Nodes = c.args.nodes.now.entries in
    let test : Node → Bool = is_picked c.args.marked in
    let after : (k : Identifier) (v : Node) (b : Bool) → slice_get ns c.loop-i.i ≡ Some (k, v) → test v ≡ b → c.loop-i.ids.items ++ cond b (k ∷ []) [] ≡ c.args.ids.now.items ++ ids_where test (take (c.loop-i.i + 1) ns) = λ k v b at is.
    ap (λ xs. xs ++ cond b (k ∷ []) []) c.loop-i.invariant
    ∙ append_assoc c.args.ids.now.items (ids_where test (take c.loop-i.i ns)) (cond b (k ∷ []) [])
    ∙ ap (λ xs. c.args.ids.now.items ++ xs) (ap (λ d. ids_where test (take c.loop-i.i ns) ++ cond d (k ∷ []) []) (sym is) ∙ sym (picked_step test ns c.loop-i.i k v at)) in
    elim c.match-get_index.branch [
      | in_default w ↦ search rules
      | in-Some+then-is_picked+in_ok-push w ↦
          let at : slice_get ns c.loop-i.i ≡ Some (w.in-Some.id.now, w.in-Some.node.now) = sym c.get_index.ensures.entry ∙ ap (option_map deref_pair) w.in-Some.is in
          ap (λ u. u.items) w.ids-is ∙ w.in_ok-push.ensures.items ∙ after w.in-Some.id.now w.in-Some.node.now true at (sym w.is_picked.ensures ∙ w.if-is_picked.true)
      | in-Some+else-is_picked w ↦
          let at : slice_get ns c.loop-i.i ≡ Some (w.in-Some.id.now, w.in-Some.node.now) = sym c.get_index.ensures.entry ∙ ap (option_map deref_pair) w.in-Some.is in
          ap (λ u. u.items) w.ids-is ∙ sym (append-nil c.loop-i.ids.items) ∙ after w.in-Some.id.now w.in-Some.node.now false at (sym w.is_picked.ensures ∙ w.if-is_picked.false)
    ]
