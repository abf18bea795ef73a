use Rattle.std.proofs.Common.{rules, ◌≡◌, None, refl}
use Rattle.mg_keys.specs.declared.step.Step.TheVariants.{Unbound}
use Rattle.mg_minibuffer.specs.Dialogues.{search_of}
use Rattle.mg_editor.specs.Presses.{IsRead}
use Rattle.mg_editor.proofs.Steps.{left}
use Rattle.mg_editor.proofs.editor.Editor.leave.Goals as goal

pub returns-in-Some : goal.returns-in-Some
returns-in-Some g c =
    left c.args.byte c.in-Some.search c.feed-step.result c.args.self.now c.leave_by.new.self c.take_search.new.self c.feed-step.new.self c.leave_by.result
    (search rules) (search rules) c.feed-step.ensures (search rules)

pub returns-in-None : goal.returns-in-None
returns-in-None g c =
    let none : search_of c.args.self.now.talk.prompt ≡ None = search rules in
    (Unbound, c.args.self.now.talk, rw (none, IsRead) (refl, refl), search rules)
