use Rattle.std.proofs.Common.{sym, ◌∙◌, Some, None}
use Rattle.rga_brief.proofs.LineLaws.{too_long, said}
use Rattle.rga_brief.proofs.claim_line.read_claim_line.Goals as goal

pub returns-then-bytes-gt-MAX_LINE : goal.returns-then-bytes-gt-MAX_LINE
returns-then-bytes-gt-MAX_LINE c = λ _. sym (too_long c.args.bytes.now c.if-bytes-gt-MAX_LINE.true)

pub returns-in-Some : goal.returns-in-Some
returns-in-Some c = λ _. sym (said c.args.bytes.now (Some c.in-Some.claim) c.if-bytes-gt-MAX_LINE.false (sym c.in_ok-claim.ensures.ok ∙ c.in-Some.is))

pub returns : goal.returns
returns c = λ known. c.end_said.ensures known ∙ sym (said c.args.bytes.now None c.if-bytes-gt-MAX_LINE.false (sym c.in_ok-claim.ensures.ok ∙ c.in_default.is))
