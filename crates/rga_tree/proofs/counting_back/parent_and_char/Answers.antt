use Rattle.std.proofs.Common.{◌≡◌, ℕ, refl, sym, ap, ◌∙◌}
use Rattle.std.specs.Prelude.{Some, Option}
use Rattle.std.specs.Option.{option_map, option_copied}
use Rattle.std.specs.FinMap as finite_map
use Rattle.std.specs.Map.{lookup}
use Rattle.std.proofs.lemmas.Option.{none-some}
use Rattle.rga_ops.specs.Identifier.{Identifier, is_id}
use Rattle.rga_ops.specs.Content.{element}
use Rattle.rga_tree.specs.declared.nodes.Node.{Node}
use Rattle.rga_tree.specs.Nodes.{Nodes, AreDistinctNodes, content_of_nodes, char_at}
use Rattle.rga_tree.proofs.NodeLaws.{element_of, inserted_at, shown_at}
use Rattle.rga_tree.proofs.counting_back.parent_and_char.Goals as goal

-- a node's element is what is inserted
inserted_in : (ns : Nodes) (id : Identifier) (node : Node) (e : Option (Identifier × ℕ)) → AreDistinctNodes ns → lookup (is_id id) ns ≡ Some node → node.element ≡ e → finite_map.get (content_of_nodes ns).inserted id ≡ option_map (λ (x : Identifier × ℕ). element x.0 x.1) e
inserted_in ns id node e apart is has = inserted_at ns apart id ∙ ap element_of is ∙ ap (option_map (λ (x : Identifier × ℕ). element x.0 x.1)) has

pub returns-in_err-node-clause-absent : goal.returns-in_err-node-clause-absent
returns-in_err-node-clause-absent c = λ _. inserted_at c.args.nodes.now.entries c.requires c.args.id ∙ ap element_of (sym c.find_node.ensures ∙ ap option_copied c.in_err-node.was)

pub returns-in_err-parent-clause-absent : goal.returns-in_err-parent-clause-absent
returns-in_err-parent-clause-absent c = λ _.
    inserted_in c.args.nodes.now.entries c.args.id c.in_ok-node.node.now _ c.requires (sym c.find_node.ensures ∙ ap option_copied c.in_ok-node.was) c.in_err-parent.was

pub returns-clause-shown : goal.returns-clause-shown
returns-clause-shown c =
    let is : lookup (is_id c.args.id) c.args.nodes.now.entries ≡ Some c.in_ok-node.node.now = sym c.find_node.ensures ∙ ap option_copied c.in_ok-node.was in
    record {
      element = element c.in_ok-parent.parent c.in_ok-parent.field-0-1;
      found = inserted_in c.args.nodes.now.entries c.args.id c.in_ok-node.node.now _ c.requires is c.in_ok-parent.was;
      parent = refl;
      shows = c.char_of.ensures ∙ ap char_at (sym is) ∙ sym (shown_at c.args.nodes.now.entries c.requires c.args.id);
    }

pub returns-clause-absent : goal.returns-clause-absent
returns-clause-absent c = λ none. absurd (none-some _ (sym none))
