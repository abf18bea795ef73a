use Rattle.std.proofs.Common.{sym, ◌∙◌, ◌∷◌}
use Rattle.std.specs.List.{take_while}
use Rattle.mg_plain.specs.Characters.{is_blank, newline_character}
use Rattle.mg_plain.proofs.CaseLaws.{taken_off, taken_on}
use Rattle.mg_plain.proofs.insertions.newline_and_blanks.Goals as goal

pub returns-then-not-is_blank : goal.returns-then-not-is_blank
returns-then-not-is_blank c =
    taken_off is_blank c.args.line.now c.loop-c.put.items (newline_character ∷ take_while is_blank c.args.line.now) c.loop-c.c-index c.c-item.result c.loop-c-test.true c.c-item.is (sym c.is_blank.ensures ∙ c.if-not-is_blank.true) c.loop-c.invariant

pub loop-c-preserved : goal.loop-c-preserved
loop-c-preserved c =
    taken_on is_blank c.args.line.now c.loop-c.put.items c.push.new.self.items (newline_character ∷ take_while is_blank c.args.line.now) c.loop-c.c-index c.c-item.result c.loop-c-test.true c.c-item.is (sym c.is_blank.ensures ∙ c.if-not-is_blank.false) c.in_ok-push.ensures.items c.loop-c.invariant
