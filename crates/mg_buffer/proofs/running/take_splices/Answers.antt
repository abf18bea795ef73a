use Rattle.mg_buffer.proofs.Prelude.{rules, ◌≡◌, ◌<◌, Ok, text, arith, all_map, Identifier, Op, List, inserted_elements, clock_of, newest_restored, splices_answer, splices_operations}
use Rattle.rga_doc.proofs.UndoLaws.{splices_edit}
use Rattle.mg_buffer.proofs.LineLaws.{line_after}
use Rattle.mg_buffer.proofs.RestoredLaws.{newer_settled}
use Rattle.mg_buffer.proofs.running.take_splices.Goals as goal

pub add-requires-clause-settled : goal.add-requires-clause-settled
add-requires-clause-settled g c =
    let doc = c.args.doc.now in
    let ops : List Op = splices_operations doc.replica doc.content c.args.splices.now in
    let allowed : splices_answer doc.limit doc.content c.args.splices.now ≡ Ok tt = search rules in
    let newer = all_map (λ (id : Identifier). clock_of doc.content < id.counter) (λ (id : Identifier). newest_restored c.prepare.new.history < id.counter) (λ id h. omega (arith, h, c.requires.old, c.prepare.ensures.newest)) (inserted_elements ops)
    (splices_edit doc.limit doc.replica doc.content c.args.splices.now allowed).inserts in
    let inserted = newer_settled c.prepare.new.history.restored (inserted_elements ops) newer in
    search rules

pub returns-clause-line : goal.returns-clause-line
returns-clause-line g c =
    line_after c.args.line.place c.characters.result.now (text c.take.new.self.content) c.args.splices.now c.moved-front.result c.moved-front.ensures.line (search rules) (search rules) (search rules)
