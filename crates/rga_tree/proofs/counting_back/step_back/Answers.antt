use Rattle.std.proofs.Common.{◌≡◌, ℕ, subst}
use Rattle.std.specs.Prelude.{Option, Some, IfSome}
use Rattle.rga_ops.specs.Identifier.{Identifier}
use Rattle.rga_ops.specs.Content.{Content}
use Rattle.rga_tree.specs.Nodes.{content_of_nodes}
use Rattle.rga_tree.specs.Preceding.{IsShownChild}
use Rattle.rga_tree.proofs.CountingLaws.{child_of_parent, no_root, root_if_absent, visible_if_shown}
use Rattle.rga_tree.proofs.counting_back.step_back.Goals as goal

child : {held : Content} {id parent : Identifier} {ch : Option ℕ} {o : Option (Identifier × Option ℕ)} → o ≡ Some (parent, ch) → IfSome o (λ p. IsShownChild held id p.0 p.1) → IsShownChild held id parent ch
child {held} {id} was has = subst (λ (o : Option (Identifier × Option ℕ)). IfSome o (λ p. IsShownChild held id p.0 p.1)) was has

pub returns-in_err-parent-clause-root : goal.returns-in_err-parent-clause-root
returns-in_err-parent-clause-root c = λ none.
    root_if_absent (content_of_nodes c.args.nodes.now.entries) c.args.id c.requires.complete (c.parent_and_char.ensures.absent c.in_err-parent.was)

pub element_before-requires-clause-child : goal.element_before-requires-clause-child
element_before-requires-clause-child c =
    let held : Content = content_of_nodes c.args.nodes.now.entries in
    child_of_parent held c.args.id c.in_ok-parent.parent c.in_ok-parent.ch (child c.in_ok-parent.was c.parent_and_char.ensures.shown)

pub element_before-requires-clause-complete : goal.element_before-requires-clause-complete
element_before-requires-clause-complete c =
    let held : Content = content_of_nodes c.args.nodes.now.entries in
    c.requires.complete (no_root held c.requires.sound c.args.id c.in_ok-parent.parent c.in_ok-parent.ch (child c.in_ok-parent.was c.parent_and_char.ensures.shown))

pub returns-clause-visible : goal.returns-clause-visible
returns-clause-visible c =
    let held : Content = content_of_nodes c.args.nodes.now.entries in
    let its : IsShownChild held c.args.id c.in_ok-parent.parent c.in_ok-parent.ch = child c.in_ok-parent.was c.parent_and_char.ensures.shown in
    visible_if_shown held c.args.id c.in_ok-parent.parent c.in_ok-parent.ch its (c.requires.complete (no_root held c.requires.sound c.args.id c.in_ok-parent.parent c.in_ok-parent.ch its))

pub returns-clause-shown : goal.returns-clause-shown
returns-clause-shown c = (child c.in_ok-parent.was c.parent_and_char.ensures.shown).shows
