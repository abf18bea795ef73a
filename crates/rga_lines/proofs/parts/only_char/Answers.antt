use Rattle.std.proofs.Common.{sym, ◌∙◌}
use Rattle.rga_lines.proofs.ValueLemmas.{one_char, more_chars}
use Rattle.rga_lines.proofs.parts.only_char.Goals as goal

pub returns-in-None : goal.returns-in-None
returns-in-None c = sym (one_char _ c.next.new.self.rest.now c.in_ok-first.first c.utf8.text (sym c.chars-chars.ensures.rest ∙ c.in_ok-first.ensures.steps.0) c.in-None.ensures.steps.0.0)

pub returns-in-Some : goal.returns-in-Some
returns-in-Some c = sym (more_chars _ c.next.new.self.rest.now c.next-2.new.self.rest.now c.in_ok-first.first c.in-Some.field-0 c.utf8.text (sym c.chars-chars.ensures.rest ∙ c.in_ok-first.ensures.steps.0) c.in-Some.ensures.steps.0)
