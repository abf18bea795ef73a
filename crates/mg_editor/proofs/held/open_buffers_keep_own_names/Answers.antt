use Rattle.mg_plain.specs.declared.command.Command.TheVariants.{ReplaceRange}
use Rattle.mg_editor.proofs.NamesLaws.{carry_own, one_own, pasted_own, press_own, spliced_own, taken_own}
use Rattle.mg_editor.proofs.held.open_buffers_keep_own_names.Goals as goal

pub returns-clause-opened : goal.returns-clause-opened
returns-clause-opened c = one_own

pub returns-clause-pressed : goal.returns-clause-pressed
returns-clause-pressed c = press_own

pub returns-clause-carried : goal.returns-clause-carried
returns-clause-carried c = carry_own

pub returns-clause-taken : goal.returns-clause-taken
returns-clause-taken c = taken_own

pub returns-clause-spliced : goal.returns-clause-spliced
returns-clause-spliced c i lo hi put = spliced_own i (ReplaceRange lo hi put) 1

pub returns-clause-pasted : goal.returns-clause-pasted
returns-clause-pasted c = pasted_own
