use Rattle.std.proofs.Common.{sym, ap, ◌∙◌}
use Rattle.rga_ops.specs.Answer.{answer}
use Rattle.rga_records.proofs.NewerLaws.{newer_is_new}
use Rattle.rga_records.proofs.taking.take_op.Goals as goal

pub returns-in_err-insert_newer-clause-memory : goal.returns-in_err-insert_newer-clause-memory
returns-in_err-insert_newer-clause-memory c = λ _.
    ap (answer c.args.records.now.limit c.args.records.now.content) c.in-Insert.is
    ∙ newer_is_new c.args.records.now.limit c.args.records.now.content c.in-Insert.id c.in-Insert.parent c.in-Insert.ch
    (c.is_newer.ensures.newer c.if-is_newer.true) (c.is_newer.ensures.rises c.if-is_newer.true) (c.is_newer.ensures.room c.if-is_newer.true)

pub returns-then-is_newer-clause-exact : goal.returns-then-is_newer-clause-exact
returns-then-is_newer-clause-exact c = λ _.
    sym (ap (answer c.args.records.now.limit c.args.records.now.content) c.in-Insert.is
    ∙ newer_is_new c.args.records.now.limit c.args.records.now.content c.in-Insert.id c.in-Insert.parent c.in-Insert.ch
    (c.is_newer.ensures.newer c.if-is_newer.true) (c.is_newer.ensures.rises c.if-is_newer.true) (c.is_newer.ensures.room c.if-is_newer.true))
