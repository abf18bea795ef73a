use Rattle.std.proofs.Common.{sym, ap, ◌∙◌, ◌++◌, take, drop, append-nil}
use Rattle.mgr_show.specs.Note.{first_lines}
use Rattle.mgr_show.proofs.NoteLaws.{no_lines}
use Rattle.mgr_show.proofs.note.first_lines.Goals as goal

pub returns-then-left-eq0 : goal.returns-then-left-eq0
returns-then-left-eq0 c =
    let bytes = c.args.bytes.now in
    let i = c.loop-index.index in
    sym (c.loop-index.invariant ∙ ap (λ n. take i bytes ++ first_lines n (drop i bytes)) c.if-left-eq0.true ∙ ap (λ l. take i bytes ++ l) (no_lines (drop i bytes)) ∙ append-nil (take i bytes))
