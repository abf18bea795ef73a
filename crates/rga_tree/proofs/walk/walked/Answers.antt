use Rattle.std.proofs.Common.{◌∷◌, [], ◌++◌, reverse, refl, sym, ap, ◌∙◌, append-nil}
use Rattle.rga_ops.specs.Content.{Content}
use Rattle.rga_tree.specs.Nodes.{content_of_nodes}
use Rattle.rga_tree.specs.Preceding.{beginning}
use Rattle.rga_tree.proofs.CountingLaws.{none_up_to, shorter, turned}
use Rattle.rga_tree.proofs.walk.walked.Goals as goal

pub loop-step-init : goal.loop-step-init
loop-step-init c =
    let held : Content = content_of_nodes c.args.nodes.now.entries in
    record {
      stands = c.last_element-at.ensures.complete;
      listed = ap (λ xs. beginning held c.last_element-at.result ++ reverse xs) c.in_ok-order.ensures.items
          ∙ append-nil (beginning held c.last_element-at.result) ∙ c.last_element-at.ensures.last;
    }

pub loop-step-smaller : goal.loop-step-smaller
loop-step-smaller c = shorter (content_of_nodes c.args.nodes.now.entries) c.in-Some.step.0 c.loop-step.at c.in-Some.ensures.before

pub loop-step-preserved : goal.loop-step-preserved
loop-step-preserved c =
    let held : Content = content_of_nodes c.args.nodes.now.entries in
    record {
      stands = c.in-Some.ensures.complete;
      listed = ap (λ xs. beginning held c.in-Some.step.0 ++ reverse xs) c.in_ok-push.ensures.items
          ∙ turned (beginning held c.in-Some.step.0) (beginning held c.loop-step.at) c.loop-step.order.items (c.loop-step.at ∷ []) c.in-Some.ensures.before refl
          ∙ c.loop-step.invariant.listed;
    }

pub returns : goal.returns
returns c = record {
  ok =
      c.reverse.ensures.items
      ∙ ap (λ xs. xs ++ reverse c.loop-step.order.items) (sym (none_up_to (content_of_nodes c.args.nodes.now.entries) c.loop-step.at (c.in_default.ensures.root refl)))
      ∙ c.loop-step.invariant.listed;
}
