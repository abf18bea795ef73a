use Rattle.rga_lines.proofs.Prelude.{rules, codes}
use Rattle.rga_lines.specs.Spelling.{BeginsWithIdentifier, ReadsInsertions}
use Rattle.rga_lines.proofs.SpelledLemmas.{run_says}
use Rattle.rga_lines.proofs.spelled.read_insertions.Goals as goal

pub returns : goal.returns
returns c = record {
  said = λ e.
      let id = c.in-Some in
      let parent = c.in-Some-id_after in
      let first : BeginsWithIdentifier c.args.bytes.now (codes "{\"id\":") id.id id.rest.now = search rules in
      let place : BeginsWithIdentifier id.rest.now (codes ",\"op\":\"run\",\"parent\":") parent.parent parent.rest.now = search rules in
      let read : ReadsInsertions id.id parent.parent c.in-Some-after_literal.text.now c.characters.new.ops.items = let r = c.in_ok-read.ensures.read e in search rules in
      run_says c.args.bytes.now id.rest.now parent.rest.now c.in-Some-after_literal.text.now id.id parent.parent c.characters.new.ops.items first place
      (search rules) read (search rules) (search rules) (search rules) (search rules);
}
