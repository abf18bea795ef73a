use Rattle.std.proofs.Common.{◌≡◌, ◌+◌, ◌<◌, ◌≤◌, filter, length, refl, sym, ap, ◌∙◌, arith}
use Rattle.std.specs.Prelude.{slice_get}
use Rattle.std.specs.Int.{from_bool}
use Rattle.std.proofs.lemmas.Option.{slice_get_past}
use Rattle.rga_ops.specs.Content.{Content}
use Rattle.rga_ops.specs.Places.{is_visible, visible}
use Rattle.rga_tree.specs.Nodes.{content_of_nodes}
use Rattle.rga_tree.specs.Preceding.{visible_up_to}
use Rattle.rga_tree.proofs.CountingLaws.{none_up_to, count_less, shorter, at_here, at_before}
use Rattle.rga_tree.proofs.counting_back.element_at.Goals as goal

pub returns-then-count-k : goal.returns-then-count-k
returns-then-count-k c =
    let held : Content = content_of_nodes c.args.nodes.now.entries in
    let all : visible_up_to held c.last_element-at.result ≡ visible held = ap (filter (is_visible held)) c.last_element-at.ensures.last in
    sym (slice_get_past (visible held) c.args.k (omega (arith, ap length all, c.count_up_to-count.ensures)))

pub loop-step-init : goal.loop-step-init
loop-step-init c =
    let held : Content = content_of_nodes c.args.nodes.now.entries in
    let all : visible_up_to held c.last_element-at.result ≡ visible held = ap (filter (is_visible held)) c.last_element-at.ensures.last in
    record {
      stands = c.last_element-at.ensures.complete;
      counted = c.count_up_to-count.ensures;
      within = omega arith;
      same = ap (λ xs. slice_get xs c.args.k) (sym all);
    }

pub loop-step-smaller : goal.loop-step-smaller
loop-step-smaller c = shorter (content_of_nodes c.args.nodes.now.entries) c.in-Some.step.0 c.loop-step.at c.in-Some.ensures.before

pub overflow_sub-count : goal.overflow_sub-count
overflow_sub-count c =
    let held : Content = content_of_nodes c.args.nodes.now.entries in
    omega (arith, c.loop-step.invariant.counted, count_less held c.in-Some.step.0 c.loop-step.at c.is_some.result c.in-Some.ensures.before (c.is_some.ensures ∙ c.in-Some.ensures.visible), c.from-count.ensures)

pub returns-then-count-k-2 : goal.returns-then-count-k-2
returns-then-count-k-2 c =
    let held : Content = content_of_nodes c.args.nodes.now.entries in
    let less : length (visible_up_to held c.loop-step.at) ≡ length (visible_up_to held c.in-Some.step.0) + from_bool c.is_some.result = count_less held c.in-Some.step.0 c.loop-step.at c.is_some.result c.in-Some.ensures.before (c.is_some.ensures ∙ c.in-Some.ensures.visible) in
    let reached : length (visible_up_to held c.in-Some.step.0) ≤ c.args.k = omega (arith, c.loop-step.invariant.counted, less, c.from-count.ensures) in
    let within : c.args.k < length (visible_up_to held c.loop-step.at) = omega (arith, c.loop-step.invariant.counted, c.loop-step.invariant.within) in
    sym (c.loop-step.invariant.same ∙ at_here held c.in-Some.step.0 c.loop-step.at c.args.k c.in-Some.ensures.before within reached)

pub loop-step-preserved : goal.loop-step-preserved
loop-step-preserved c =
    let held : Content = content_of_nodes c.args.nodes.now.entries in
    let less : length (visible_up_to held c.loop-step.at) ≡ length (visible_up_to held c.in-Some.step.0) + from_bool c.is_some.result = count_less held c.in-Some.step.0 c.loop-step.at c.is_some.result c.in-Some.ensures.before (c.is_some.ensures ∙ c.in-Some.ensures.visible) in
    let within : c.args.k < length (visible_up_to held c.in-Some.step.0) = omega (arith, c.loop-step.invariant.counted, less, c.from-count.ensures) in
    record {
      stands = c.in-Some.ensures.complete;
      counted = omega (arith, c.loop-step.invariant.counted, less, c.from-count.ensures);
      within = omega arith;
      same = c.loop-step.invariant.same ∙ at_before held c.in-Some.step.0 c.loop-step.at c.args.k c.in-Some.ensures.before within;
    }

pub returns : goal.returns
returns c =
    let held : Content = content_of_nodes c.args.nodes.now.entries in
    sym (c.loop-step.invariant.same ∙ ap (λ xs. slice_get (filter (is_visible held) xs) c.args.k) (none_up_to held c.loop-step.at (c.in_default.ensures.root refl)))
