use Rattle.std.proofs.lemmas.Result.{IfOk-weaker}
use Rattle.rga_brief.proofs.LineLaws.{no_text, of_text}
use Rattle.rga_brief.proofs.claim_line.claim_said.Goals as goal

pub returns-in_default : goal.returns-in_default
returns-in_default c = record { ok = no_text c.args.bytes.now c.in_default.ensures.cases.0 }

pub returns : goal.returns
returns c = record { ok = IfOk-weaker c.read_claim.result _ _ (λ claim said. of_text c.in-Ok.text.now c.args.bytes.now claim c.in-Ok.ensures.cases.0 c.in-Ok.ensures.cases.1 said) c.read_claim.ensures.ok }
