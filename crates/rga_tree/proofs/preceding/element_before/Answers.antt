use Rattle.std.proofs.Common.{sym, ◌∙◌}
use Rattle.rga_tree.specs.Nodes.{content_of_nodes, children_of}
use Rattle.rga_tree.proofs.PrecedingLaws.{IsPathed, pathed, IsJustBefore, parent_before, last_before, sibling_complete, beginning_before, complete_if_pathed}
use Rattle.rga_tree.proofs.preceding.element_before.Goals as goal

pub last_under-requires-clause-complete : goal.last_under-requires-clause-complete
last_under-requires-clause-complete c = λ r.
    let w = pathed (content_of_nodes c.args.nodes.now.entries) c.args.parent c.args.id c.requires.child c.requires.complete in
    sibling_complete _ _ c.requires.family c.requires.sound _ _ w.above w.path_parent w.path _ (sym c.newer_sibling.ensures ∙ c.in-Some.is)

-- where a newer sibling is
behind_sibling : (c : goal.After-last_under) → IsJustBefore (content_of_nodes c.args.nodes.now.entries) c.last_under.result c.args.id
behind_sibling c =
    let w = pathed (content_of_nodes c.args.nodes.now.entries) c.args.parent c.args.id c.requires.child c.requires.complete in
    last_before _ _ c.requires.family c.requires.sound _ _ w.above w.path_parent w.path _ _ (sym c.newer_sibling.ensures ∙ c.in-Some.is) c.last_under.ensures

pub returns-in-Some-clause-before : goal.returns-in-Some-clause-before
returns-in-Some-clause-before c = beginning_before _ _ _ (behind_sibling c) c.requires.complete

pub returns-in-Some-clause-complete : goal.returns-in-Some-clause-complete
returns-in-Some-clause-complete c = complete_if_pathed (content_of_nodes c.args.nodes.now.entries) _ (behind_sibling c).before.here (behind_sibling c).before.path_here

-- where none is
pub returns-in-None-clause-before : goal.returns-in-None-clause-before
returns-in-None-clause-before c =
    let w = pathed (content_of_nodes c.args.nodes.now.entries) c.args.parent c.args.id c.requires.child c.requires.complete in
    beginning_before _ _ _ (parent_before _ _ c.requires.family c.requires.sound _ _ w.above w.path_parent w.path (sym c.newer_sibling.ensures ∙ c.in-None.is)) c.requires.complete

pub returns-in-None-clause-complete : goal.returns-in-None-clause-complete
returns-in-None-clause-complete c =
    let w = pathed (content_of_nodes c.args.nodes.now.entries) c.args.parent c.args.id c.requires.child c.requires.complete in
    complete_if_pathed (content_of_nodes c.args.nodes.now.entries) _ w.above w.path_parent
