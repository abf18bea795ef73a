use Rattle.rga_lines.proofs.Prelude.{rules, codes}
use Rattle.rga_lines.specs.Spelling.{BeginsWithIdentifier}
use Rattle.rga_lines.proofs.SpelledLemmas.{deletion_says}
use Rattle.rga_lines.proofs.spelled.read_deletion.Goals as goal

pub returns : goal.returns
returns c =
    let first : BeginsWithIdentifier c.args.bytes.now (codes "{\"id\":") c.in-Some.id c.in-Some.rest.now = search rules in
    let said = deletion_says c.args.bytes.now c.in-Some.rest.now c.in-Some.id first (search rules) (search rules) in
    search rules
