use Rattle.std.proofs.Common.{◌-◌, ◌++◌, ℕ, List, take, drop, ap, ◌∙◌}
use Rattle.rga_doc.proofs.ShiftLaws.{turned_part}
use Rattle.rga_doc.proofs.shifting.turn_part.Goals as goal

pub returns-clause-items : goal.returns-clause-items
returns-clause-items c =
    let xs : List ℕ = c.args.characters.now in
    ap (λ ys. take c.args.from xs ++ (ys ++ drop (c.args.end - c.args.from) (drop c.args.from xs))) c.rotate_left.ensures.after
    ∙ turned_part xs c.args.from c.args.end c.args.count c.requires.ordered c.requires.within
