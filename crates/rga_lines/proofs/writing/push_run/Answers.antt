use Rattle.rga_lines.proofs.Prelude.{◌++◌, codes, string_bytes, ap, ◌∙◌, flat_map, escaped, pair_text}
use Rattle.rga_lines.specs.Spelling.{run_line}
use Rattle.rga_lines.proofs.AddedLemmas.{five_parts}
use Rattle.rga_lines.proofs.writing.push_run.Goals as goal

pub returns-clause-ok : goal.returns-clause-ok
unfolding run_line
returns-clause-ok c =
    let r = c.run.inside in
    five_parts _ (codes "{\"id\":") (pair_text r.id) (codes ",\"op\":\"run\",\"parent\":") (pair_text r.parent) (codes ",\"text\":\"") (flat_map escaped r.chars.items) (codes "\"}")
    _ _ _ _ _
    c.in_ok-push_id.ensures.ok c.in_ok-push_id-2.ensures.ok c.in_ok-push_str.ensures.bytes
    (c.in_ok-push_all.ensures.ok ∙ ap (λ cs. string_bytes c.push_str.new.self ++ flat_map escaped cs) c.deref.ensures.value) c.in_ok-push_str-2.ensures.bytes
    ∙ ap (λ l. string_bytes c.args.text.now ++ run_line l) c.run.view_is
