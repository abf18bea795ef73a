use Rattle.std.proofs.Common.{refl, sym, ◌∙◌}
use Rattle.rga_ops.specs.Content.{Content}
use Rattle.rga_tree.specs.Nodes.{content_of_nodes}
use Rattle.rga_tree.proofs.CountingLaws.{parent_less, reaches_by_parent, reaches_if_root}
use Rattle.rga_tree.proofs.counting_back.reaches_root.Goals as goal

pub loop-child-smaller : goal.loop-child-smaller
loop-child-smaller c =
    let held : Content = content_of_nodes c.args.nodes.now.entries in
    parent_less held c.requires.sound c.loop-child.at c.in-Some.child.0 c.in-Some.child.1 c.in-Some.ensures.shown

pub loop-child-preserved : goal.loop-child-preserved
loop-child-preserved c =
    let held : Content = content_of_nodes c.args.nodes.now.entries in
    sym (reaches_by_parent held c.requires.sound c.loop-child.at c.in-Some.child.0 c.in-Some.child.1 c.in-Some.ensures.shown)
    ∙ c.loop-child.invariant

pub returns : goal.returns
returns c = c.eq.ensures ∙ reaches_if_root (content_of_nodes c.args.nodes.now.entries) c.loop-child.at (c.in_default.ensures.absent refl) ∙ c.loop-child.invariant
