use Rattle.std.proofs.Common.{sym, ◌∙◌, rules}
use Rattle.rga_lines.proofs.ReadingLemmas.{too_long, refused, accepted}
use Rattle.rga_lines.proofs.reading.read_any.Goals as goal

pub returns-then-bytes-gt-MAX_LINE-clause-exact : goal.returns-then-bytes-gt-MAX_LINE-clause-exact
returns-then-bytes-gt-MAX_LINE-clause-exact c = λ _. sym (too_long c.args.bytes.now c.if-bytes-gt-MAX_LINE.true)

pub returns-in-Ok-clause-exact : goal.returns-in-Ok-clause-exact
returns-in-Ok-clause-exact c = λ n. c.line_of.ensures n ∙ sym (accepted c.args.bytes.now _ c.if-bytes-gt-MAX_LINE.false c.in-Ok.ensures.ok.0 c.in-Ok.ensures.ok.1)

pub returns-in-None-clause-exact : goal.returns-in-None-clause-exact
returns-in-None-clause-exact c = λ _. sym (refused c.args.bytes.now c.if-bytes-gt-MAX_LINE.false (c.in-Err.ensures.err (search rules)))
