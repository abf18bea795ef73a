use Rattle.std.proofs.Common.{◌≡◌, false, refl, rules}
use Rattle.rga_ops.specs.Content.{nothing}
use Rattle.rga_doc.specs.Document.{document}
use Rattle.mg_files.specs.Loading.{ends_open}
use Rattle.mg_files.proofs.LoadedLaws.{log_is_loaded}
use Rattle.mg_files.proofs.loading.load_log.Goals as goal

pub returns : goal.returns
returns g c =
    let made : c.in_ok-doc.doc ≡ document nothing c.args.limit c.args.replica false = c.in_ok-doc.ensures in
    let is = log_is_loaded c.args.limit c.args.replica c.args.bytes c.in_ok-end.end c.new-reader.result c.read_log.new.reader c.in_ok-doc.doc c.read_log.new.taker made c.new-reader.ensures c.in_ok-end.ensures.taken c.in_ok-end.ensures.limit in
    let ends : c.ne.result ≡ ends_open c.in_ok-end.end = search rules in
    λ fine. rw (is.outcome, c.new-2.ensures, ends, c.new-buffer.ensures, is.document, c.new.ensures.items, c.in_ok-name.ensures.ok) refl
