use Rattle.std.proofs.Common.{sym, ◌∙◌}
use Rattle.rga_tree.specs.Nodes.{content_of_nodes, children_of}
use Rattle.rga_tree.proofs.PrecedingLaws.{descent_start, descent_step, descent_end, descent_smaller}
use Rattle.rga_tree.proofs.preceding.last_under.Goals as goal

pub loop-child-init : goal.loop-child-init
loop-child-init c = descent_start (content_of_nodes c.args.nodes.now.entries) c.args.id c.requires.complete

pub loop-child-smaller : goal.loop-child-smaller
loop-child-smaller c = descent_smaller _ _ c.requires.family c.requires.sound _ _ (sym c.oldest_child.ensures ∙ c.in-Some.is)

pub loop-child-preserved : goal.loop-child-preserved
loop-child-preserved c = descent_step _ _ c.requires.family c.requires.sound _ _ c.loop-child.invariant _ (sym c.oldest_child.ensures ∙ c.in-Some.is)

pub returns : goal.returns
returns c = descent_end _ _ c.requires.family c.requires.sound _ _ c.loop-child.invariant (sym c.oldest_child.ensures ∙ c.in_default.is)
