use Rattle.std.proofs.Common.{subst}
use Rattle.mg_keys.specs.declared.step.Step.TheVariants.{Text}
use Rattle.mg_editor.specs.Presses.{FollowsReaction, editor_reaction}
use Rattle.mg_editor.proofs.TypingLaws.{typed_one}
use Rattle.mg_editor.proofs.editor.Editor.type_one.Goals as goal

pub returns-clause-typed : goal.returns-clause-typed
returns-clause-typed g c =
    let old = c.args.self.now in
    let now = c.do_step.new.self in
    subst (FollowsReaction (editor_reaction (Text c.args.ch) old) old now) (typed_one c.args.ch old now c.in_ok-request.request c.requires c.in_ok-request.ensures.stepped).0 c.in_ok-request.ensures.stepped

pub returns-clause-ready : goal.returns-clause-ready
returns-clause-ready g c = (typed_one c.args.ch c.args.self.now c.do_step.new.self c.in_ok-request.request c.requires c.in_ok-request.ensures.stepped).1
