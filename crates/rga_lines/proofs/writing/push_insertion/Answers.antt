use Rattle.std.proofs.Common.{codes, string_bytes}
use Rattle.rga_lines.specs.Spelling.{escaped, pair_text, line}
use Rattle.rga_lines.proofs.AddedLemmas.{last_part, insertion_parts}
use Rattle.rga_lines.proofs.writing.push_insertion.Goals as goal

pub returns-clause-ok : goal.returns-clause-ok
unfolding line
returns-clause-ok c =
    last_part c.push_str-2.result (string_bytes c.push_id-2.new.text) (codes "}") c.push_str-2.ensures.bytes
    (insertion_parts (string_bytes c.args.text.now) (codes "{\"char\":\"") (escaped c.args.ch) (codes "\",\"id\":") (pair_text c.args.id.now) (codes ",\"op\":\"ins\",\"parent\":") (pair_text c.args.parent.now) (codes "}") c.in_ok-push_str.ensures.bytes c.in_ok-push_escaped.ensures c.in_ok-push_id.ensures.ok c.in_ok-push_id-2.ensures.ok)
