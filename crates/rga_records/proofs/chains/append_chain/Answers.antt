use Rattle.std.proofs.Common.{◌≡◌, ◌++◌, sym, ap, ◌∙◌, subst}
use Rattle.rga_records.specs.Records.{Entries, content_of_records, AreOrdered}
use Rattle.rga_records.proofs.NewerLaws.{rows_ordered, rows_content}
use Rattle.rga_records.proofs.chains.append_chain.Goals as goal

pub append-requires : goal.append-requires
append-requires c =
    subst AreOrdered (sym c.as_slice.ensures.value)
    (rows_ordered (content_of_records c.args.entries.now) c.args.parent c.args.chain.now c.add_rows.new.rows.items c.requires.newer c.add_rows.ensures)

pub returns-clause-content : goal.returns-clause-content
returns-clause-content c = λ t.
    let es : Entries = c.args.entries.now in
    let rs : Entries = c.add_rows.new.rows.items in
    let is : c.append.new.self ≡ es ++ rs = c.append.ensures.entries t ∙ ap (λ y. es ++ y) c.as_slice.ensures.value in
    ap content_of_records is ∙ rows_content es c.args.parent c.args.chain.now rs (subst AreOrdered is c.append.ensures.ordered) c.requires.newer c.add_rows.ensures
