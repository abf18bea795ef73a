use Rattle.mg_plain.specs.declared.command.Command.TheVariants.{ReplaceRange}
use Rattle.mg_editor.proofs.RemovalLaws.{carried_stay, pasted_stay, pressed_so, spliced_stay, taken_stay}
use Rattle.mg_editor.proofs.held.a_removed_buffer_is_saved.Goals as goal

pub returns-clause-pressed : goal.returns-clause-pressed
returns-clause-pressed c = pressed_so

pub returns-clause-carried : goal.returns-clause-carried
returns-clause-carried c = carried_stay

pub returns-clause-taken : goal.returns-clause-taken
returns-clause-taken c = taken_stay

pub returns-clause-spliced : goal.returns-clause-spliced
returns-clause-spliced c i lo hi put = spliced_stay i (ReplaceRange lo hi put) 1

pub returns-clause-pasted : goal.returns-clause-pasted
returns-clause-pasted c = pasted_stay
