use Rattle.std.proofs.Common.{◌≡◌, ◌+◌, filter, length, refl, ap, ◌∙◌, arith}
use Rattle.std.specs.Int.{from_bool}
use Rattle.rga_ops.specs.Content.{Content}
use Rattle.rga_ops.specs.Places.{is_visible}
use Rattle.rga_tree.specs.Nodes.{content_of_nodes}
use Rattle.rga_tree.specs.Preceding.{visible_up_to}
use Rattle.rga_tree.proofs.CountingLaws.{none_up_to, count_less, shorter, few_up_to}
use Rattle.rga_tree.proofs.counting_back.count_up_to.Goals as goal

pub loop-step-init : goal.loop-step-init
loop-step-init c = record { stands = c.requires.complete; counted = omega arith }

pub overflow_add-count : goal.overflow_add-count
overflow_add-count c =
    let held : Content = content_of_nodes c.args.nodes.now.entries in
    omega (arith, c.loop-step.invariant.counted, count_less held c.in-Some.step.0 c.loop-step.at c.is_some.result c.in-Some.ensures.before (c.is_some.ensures ∙ c.in-Some.ensures.visible), c.from-count.ensures, few_up_to held c.args.id, c.requires.few)

pub loop-step-smaller : goal.loop-step-smaller
loop-step-smaller c = shorter (content_of_nodes c.args.nodes.now.entries) c.in-Some.step.0 c.loop-step.at c.in-Some.ensures.before

pub loop-step-preserved : goal.loop-step-preserved
loop-step-preserved c =
    let held : Content = content_of_nodes c.args.nodes.now.entries in
    let less : length (visible_up_to held c.loop-step.at) ≡ length (visible_up_to held c.in-Some.step.0) + from_bool c.is_some.result = count_less held c.in-Some.step.0 c.loop-step.at c.is_some.result c.in-Some.ensures.before (c.is_some.ensures ∙ c.in-Some.ensures.visible) in
    record {
      stands = c.in-Some.ensures.complete;
      counted = omega (arith, c.loop-step.invariant.counted, less, c.from-count.ensures);
    }

pub returns : goal.returns
returns c =
    let held : Content = content_of_nodes c.args.nodes.now.entries in
    omega (arith, c.loop-step.invariant.counted, ap (λ xs. length (filter (is_visible held) xs)) (none_up_to held c.loop-step.at (c.in_default.ensures.root refl)))
