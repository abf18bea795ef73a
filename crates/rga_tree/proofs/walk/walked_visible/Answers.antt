use Rattle.std.proofs.Common.{◌++◌, filter, is_some, reverse, refl, sym, ap, ◌∙◌, append-nil}
use Rattle.std.specs.List.{filter_map}
use Rattle.rga_ops.specs.Content.{Content}
use Rattle.rga_ops.specs.Order.{shown}
use Rattle.rga_ops.specs.Places.{is_visible}
use Rattle.rga_tree.specs.Nodes.{content_of_nodes}
use Rattle.rga_tree.specs.Preceding.{visible_up_to}
use Rattle.rga_tree.proofs.CountingLaws.{none_up_to, shorter, ids_turned, chars_up_to, chars_turned}
use Rattle.rga_tree.proofs.walk.walked_visible.Goals as goal

pub loop-step-init : goal.loop-step-init
loop-step-init c =
    let held : Content = content_of_nodes c.args.nodes.now.entries in
    record {
      stands = c.last_element-at.ensures.complete;
      elements = ap (λ xs. visible_up_to held c.last_element-at.result ++ reverse xs) c.in_ok-ids.ensures.items
          ∙ append-nil (visible_up_to held c.last_element-at.result) ∙ ap (filter (is_visible held)) c.last_element-at.ensures.last;
      characters = ap (λ xs. chars_up_to held c.last_element-at.result ++ reverse xs) c.in_ok-chars.ensures.items
          ∙ append-nil (chars_up_to held c.last_element-at.result) ∙ ap (filter_map (shown held)) c.last_element-at.ensures.last;
    }

pub loop-step-smaller : goal.loop-step-smaller
loop-step-smaller c = shorter (content_of_nodes c.args.nodes.now.entries) c.in-Some.step.0 c.loop-step.at c.in-Some.ensures.before

pub loop-step-preserved : goal.loop-step-preserved
loop-step-preserved c =
    let held : Content = content_of_nodes c.args.nodes.now.entries in
    record {
      stands = c.in-Some.ensures.complete;
      elements = ids_turned held c.in-Some.step.0 c.loop-step.at (is_some c.in-Some.step.1) c.loop-step.ids.items c.push_visible.new.ids.items c.in-Some.ensures.before c.in-Some.ensures.visible c.in_ok-push_visible.ensures.elements
          ∙ c.loop-step.invariant.elements;
      characters = chars_turned held c.in-Some.step.0 c.loop-step.at c.in-Some.step.1 c.loop-step.chars.items c.push_visible.new.chars.items c.in-Some.ensures.before c.in-Some.ensures.shown c.in_ok-push_visible.ensures.characters
          ∙ c.loop-step.invariant.characters;
    }

pub returns-clause-elements : goal.returns-clause-elements
returns-clause-elements c =
    let held : Content = content_of_nodes c.args.nodes.now.entries in
    c.reverse.ensures.items
    ∙ ap (λ xs. filter (is_visible held) xs ++ reverse c.loop-step.ids.items) (sym (none_up_to held c.loop-step.at (c.in_default.ensures.root refl)))
    ∙ c.loop-step.invariant.elements

pub returns-clause-characters : goal.returns-clause-characters
returns-clause-characters c =
    let held : Content = content_of_nodes c.args.nodes.now.entries in
    c.reverse-2.ensures.items
    ∙ ap (λ xs. filter_map (shown held) xs ++ reverse c.loop-step.chars.items) (sym (none_up_to held c.loop-step.at (c.in_default.ensures.root refl)))
    ∙ c.loop-step.invariant.characters
