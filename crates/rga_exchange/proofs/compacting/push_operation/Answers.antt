use Rattle.std.proofs.Common.{[], ◌∷◌, ◌++◌, sym, ap, subst, ◌∙◌, append-nil}
use Rattle.std.specs.Prelude.{string_bytes}
use Rattle.std.specs.Option.{option_map_or}
use Rattle.rga_exchange.specs.Counting.{WritesAllBut}
use Rattle.rga_lines.specs.Stream.{bytes_of_lines}
use Rattle.rga_exchange.proofs.LogTextLemmas.{ended}
use Rattle.rga_exchange.proofs.compacting.push_operation.Goals as goal

pub returns-clause-ok : goal.returns-clause-ok
returns-clause-ok g c =
    let lines = sym (ap (λ line. option_map_or (λ text. string_bytes text ∷ []) line []) c.in-Some.is) ∙ c.in_ok-line.ensures.line in
    let text = ap ended c.as_bytes.ensures.value ∙ sym (append-nil (ended (string_bytes c.in-Some.line))) ∙ ap bytes_of_lines lines in
    subst (λ l. WritesAllBut g.W.Write.contents c.args.writer.now c.take_line.new.writer (c.args.block.now ++ l) c.take_line.new.self) text c.in_ok-take_line.ensures.ok
