use Rattle.std.proofs.Common.{rules, subst}
use Rattle.mg_keys.specs.declared.step.Step.TheVariants.{Leave}
use Rattle.mg_minibuffer.specs.Dialogues.{Fed}
use Rattle.mg_editor.specs.Editors.{Editor}
use Rattle.mg_editor.specs.Presses.{StepTaken}
use Rattle.mg_editor.proofs.Steps.{pressed, read_at_once, refused}
use Rattle.mg_editor.proofs.editor.Editor.press.Goals as goal

pub returns-in-Leave : goal.returns-in-Leave
returns-in-Leave g c =
    let old = c.args.self.now in
    let t = c.leave.ensures in
    let feeds : Fed c.args.byte Leave old.talk c.feed-first.new.self = search rules in
    let it = pressed c.args.byte Leave t.0 old c.leave.new.self c.feed-first.new.self t.1 c.leave.result feeds t.2 (search rules) in
    record { pressed = it; refused = refused c.args.byte old c.leave.new.self c.leave.result it }

pub returns-in_default : goal.returns-in_default
returns-in_default g c =
    let old = c.args.self.now in
    let fed = c.feed-first.new.self in
    let step = c.feed-first.result in
    let reads = read_at_once c.args.byte step fed c.in_default.not-Leave in
    let taken = subst (λ (e : Editor). StepTaken step (record e { talk = fed }) (record e { talk = fed }) c.take_step.new.self c.take_step.result) c.self.view_is c.take_step.ensures in
    let it = pressed c.args.byte step step old c.take_step.new.self fed fed c.take_step.result (search rules) reads taken in
    record { pressed = it; refused = refused c.args.byte old c.take_step.new.self c.take_step.result it }
