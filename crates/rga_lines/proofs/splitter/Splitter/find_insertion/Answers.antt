use Rattle.rga_lines.proofs.Prelude.{rules, ◌∙◌, ap, sym, Splitting}
use Rattle.rga_lines.proofs.NextLine.{operation_waits}
use Rattle.rga_lines.proofs.splitter.Splitter.find_insertion.Goals as goal

pub returns : goal.returns
returns c =
    let good = ap (λ (s : Splitting). s.broken) (sym c.self.view_is) ∙ c.if-self.false in
    operation_waits c.args.self.now c.waiting-waiting.result.now c.in-Some.rest.now c.in-Some-split_first.field-0-1.now c.in-Some.op c.in-Some-split_first.first.now good c.waiting-waiting.ensures c.in-Some.ensures (search rules) (search rules)
