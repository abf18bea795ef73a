use Rattle.std.proofs.Common.{◌≡◌, true, Ok, ap, ◌∙◌}
use Rattle.rga_records.specs.Chains.{grown}
use Rattle.rga_flat.proofs.newer.gather_newer.Goals as goal

pub returns-in-Ok-true-clause-shows : goal.returns-in-Ok-true-clause-shows
returns-in-Ok-true-clause-shows c =
    let all : c.insert_chain-answer.result ≡ Ok true = c.in-Ok-true.is ∙ ap Ok c.in-Ok-true.field-0-test in
    rw (c.insert_chain-answer.ensures.ok all ∙ ap (grown c.args.records.now.content c.args.parent) c.as_slice-chain.ensures.value) c.scan.ensures.shows
