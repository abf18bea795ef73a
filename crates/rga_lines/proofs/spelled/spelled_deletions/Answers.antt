use Rattle.rga_lines.proofs.Prelude.{rules, codes}
use Rattle.rga_lines.specs.Spelling.{BeginsWithIdentifier}
use Rattle.rga_lines.proofs.SpelledLemmas.{deletions_say}
use Rattle.rga_lines.proofs.spelled.spelled_deletions.Goals as goal

pub returns : goal.returns
returns c =
    let name = c.in-Some-id_after in
    let named : BeginsWithIdentifier c.in-Some-number.rest.now (codes ",\"id\":") name.id name.rest.now = search rules in
    let said = deletions_say c.args.bytes.now c.in-Some.rest.now c.in-Some-number.rest.now name.rest.now name.id c.in-Some-number.count c.in-Some.ensures (search rules) named
    (search rules) (search rules) (search rules) (search rules) (search rules) in
    search rules
