use Rattle.std.proofs.Common.{◌≡◌, ℕ, ◌+◌, List, [], ◌∷◌, ◌++◌, take, Option, Some, None, sym, ap, ◌∙◌, append-nil, append_assoc}
use Rattle.std.specs.List.{filter_map, cons_option}
use Rattle.std.specs.Option.{option_map}
use Rattle.std.specs.FinMap as finite_map
use Rattle.std.proofs.lemmas.List.{take_more}
use Rattle.std.proofs.lemmas.List.Elements.{filter_map-append}
use Rattle.rga_ops.specs.Identifier.{Identifier}
use Rattle.rga_ops.specs.Content.{Element}
use Rattle.rga_ops.specs.Operations.{insertion_at, insertion_of}
use Rattle.rga_ops.specs.declared.op.Op.{Op}
use Rattle.rga_ops.specs.declared.op.Op.TheVariants.{Insert}
use Rattle.rga_tree.specs.Nodes.{content_of_nodes}
use Rattle.rga_tree.proofs.operations.push_insertions.Goals.{in-Some+in_ok-push, in_default}
use Rattle.rga_tree.proofs.operations.push_insertions.Goals as goal

by_element : (o : Option Element) (id : Identifier) (r : Option (Identifier × ℕ)) → option_map (λ x. (x.parent, x.ch)) o ≡ r → option_map (λ x. insertion_of (id, x)) o ≡ option_map (λ x. Insert id x.0 x.1) r
by_element None id r h = ap (option_map (λ (x : Identifier × ℕ). Insert id x.0 x.1)) h
by_element (Some x) id r h = ap (option_map (λ (x : Identifier × ℕ). Insert id x.0 x.1)) h

pub loop-id-preserved : goal.loop-id-preserved
loop-id-preserved c =
    let h : Identifier → Option Op = insertion_at (content_of_nodes c.args.nodes.now.entries) in
    let xs : List Identifier = c.args.ids.now in
    let i : ℕ = c.loop-id.id-index in
    let x : Identifier = c.id-item.result in
    let more : take (i + 1) xs ≡ take i xs ++ x ∷ [] = take_more xs i x c.loop-id-test.true ∙ ap (λ y. take i xs ++ y ∷ []) (sym c.id-item.is) in
    let after : (o : Option Op) → h x ≡ o → c.loop-id.ops.items ++ cons_option o [] ≡ c.args.ops.now.items ++ filter_map h (take (i + 1) xs) = λ o e.
    ap (λ ys. ys ++ cons_option o []) c.loop-id.invariant
    ∙ append_assoc c.args.ops.now.items (filter_map h (take i xs)) (cons_option o [])
    ∙ ap (λ ys. c.args.ops.now.items ++ ys) (ap (λ p. filter_map h (take i xs) ++ cons_option p []) (sym e) ∙ sym (filter_map-append h (take i xs) (x ∷ [])) ∙ ap (filter_map h) (sym more)) in
    elim c.match-element_of.branch [
      | in_default w ↦
          ap (λ v. v.items) w.ops-is ∙ sym (append-nil c.loop-id.ops.items) ∙ after None (by_element (finite_map.get (content_of_nodes c.args.nodes.now.entries).inserted x) x None (sym w.in_default.ensures))
      | in-Some+in_ok-push w ↦
          ap (λ v. v.items) w.ops-is ∙ w.in_ok-push.ensures.items ∙ after (Some (Insert x w.in-Some.element.0 w.in-Some.element.1)) (by_element (finite_map.get (content_of_nodes c.args.nodes.now.entries).inserted x) x (Some w.in-Some.element) (sym c.element_of.ensures ∙ w.in-Some.is))
    ]
