use Rattle.std.proofs.Common.{◌++◌, codes, decimal, ap, ◌∙◌}
use Rattle.rga_lines.specs.Spelling.{pair_text, deletion_run_line}
use Rattle.rga_lines.proofs.AddedLemmas.{three_parts}
use Rattle.rga_lines.proofs.writing.write_deletion_run.Goals as goal

pub returns : goal.returns
unfolding deletion_run_line
returns c = record {
  ok =
      let r = c.args.run.now in
      three_parts _ (codes "{\"count\":") (decimal r.count) (codes ",\"id\":") (pair_text r.id) (codes ",\"op\":\"dels\"}") _ _ _
      c.in_ok-push_count.ensures c.in_ok-push_id.ensures.ok c.in_ok-push_str.ensures.bytes
      ∙ ap (λ l. l ++ deletion_run_line r) c.in_ok-text.ensures.bytes;
}
