use Rattle.mg_buffer.proofs.Prelude.{rules, ◌<◌, ◌≤◌, ◌++◌, ◌∙◌, sym, ap, subst, arith, all_map, map-append, Identifier, clock_of, past_at, greatest_counter, newest_restored, old_ones, restored_by}
use Rattle.mg_buffer.proofs.OldLaws.{greatest_both}
use Rattle.mg_buffer.proofs.RestoredLaws.{inserted_newer, newer_settled, ones_old, ops, restores}
use Rattle.mg_buffer.proofs.undoing.take_reverted.Goals as goal

pub add_undo-requires-clause-settled : goal.add_undo-requires-clause-settled
add_undo-requires-clause-settled g c =
    let doc = c.args.doc.now in
    let newer = all_map (λ (id : Identifier). clock_of doc.content < id.counter) (λ (id : Identifier). newest_restored c.prepare.new.history < id.counter) (λ id h. omega (arith, h, c.requires.old, c.prepare.ensures.newest)) _
    (inserted_newer doc.replica doc.content c.args.undone.now c.requires.able) in
    let inserted = newer_settled c.prepare.new.history.restored _ newer in
    search rules

pub add_undo-requires-clause-restores : goal.add_undo-requires-clause-restores
add_undo-requires-clause-restores g c =
    let doc = c.args.doc.now in
    let all = restores doc.replica doc.content c.args.undone.now c.requires.able c.prepare.new.history c.requires.at.0 (c.requires.at.1 ∙ ap (λ ps. past_at ps c.requires.at.0) (sym c.prepare.ensures.same.0)) (omega (arith, c.requires.old, c.prepare.ensures.newest)) in
    search rules

pub returns-clause-taken : goal.returns-clause-taken
returns-clause-taken g c =
    let doc = c.args.doc.now in
    let n = clock_of doc.content in
    let rs = c.prepare.new.history.restored in
    let more = restored_by (ops doc.replica doc.content c.args.undone.now c.requires.able) in
    let newest : greatest_counter (old_ones (rs ++ more)) ≤ n =
    subst (λ ids. greatest_counter ids ≤ n) (sym (map-append _ rs more)) (greatest_both n (old_ones rs) (old_ones more) (omega (arith, c.requires.old, c.prepare.ensures.newest)) (ones_old doc.replica doc.content c.args.undone.now c.requires.able)) in
    search rules
