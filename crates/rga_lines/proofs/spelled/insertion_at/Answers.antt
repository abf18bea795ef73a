use Rattle.rga_lines.proofs.Prelude.{rules, codes}
use Rattle.rga_lines.specs.Spelling.{BeginsWithCharacter, BeginsWithIdentifier}
use Rattle.rga_lines.proofs.SpelledLemmas.{begins_with_insertion}
use Rattle.rga_lines.proofs.spelled.insertion_at.Goals as goal

pub returns : goal.returns
returns c =
    let char = c.in-Some-character in
    let name = c.in-Some-id_after in
    let place = c.in-Some-id_after-2 in
    let first : BeginsWithCharacter c.in-Some.rest.now char.ch char.rest.now = search rules in
    let named : BeginsWithIdentifier char.rest.now (codes "\",\"id\":") name.id name.rest.now = search rules in
    let above : BeginsWithIdentifier name.rest.now (codes ",\"op\":\"ins\",\"parent\":") place.parent place.rest.now = search rules in
    let said = begins_with_insertion c.args.bytes.now c.in-Some.rest.now char.rest.now name.rest.now place.rest.now c.in-Some-after_literal.rest.now name.id place.parent char.ch c.in-Some.ensures first named above (search rules) (search rules) in
    search rules
