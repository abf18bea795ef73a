use Rattle.std.proofs.Common.{◌≡◌, ◌+◌, ◌-◌, ℕ, List, take, drop, ap, ◌∙◌, arith}
use Rattle.rga_doc.proofs.ShiftLaws.{turned_before, first_moved, turned_behind, copied_moved, copied_before, copied_behind}
use Rattle.rga_doc.proofs.shifting.shift_on.Goals as goal

pub returns-then-to-start-le-MOST_TURNED-clause-moved : goal.returns-then-to-start-le-MOST_TURNED-clause-moved
returns-then-to-start-le-MOST_TURNED-clause-moved c =
    let xs : List ℕ = c.args.characters.now.items in
    let n : ℕ = c.args.end - c.args.start in
    let same : c.args.start + n ≡ c.args.end = omega (arith, c.requires.ordered) in
    ap (λ ys. take n (drop c.args.to ys)) c.turn.ensures.items
    ∙ first_moved xs c.args.start (c.args.to + n) n (omega (arith, c.requires.on)) c.requires.room c.args.to (omega (arith, c.requires.on))
    ∙ ap (λ m. drop c.args.start (take m xs)) same

pub returns-then-to-start-le-MOST_TURNED-clause-before : goal.returns-then-to-start-le-MOST_TURNED-clause-before
returns-then-to-start-le-MOST_TURNED-clause-before c =
    ap (take c.args.start) c.turn.ensures.items
    ∙ turned_before c.args.characters.now.items c.args.start (c.args.to + (c.args.end - c.args.start)) (c.args.end - c.args.start) (omega (arith, c.requires.on)) c.requires.room

pub returns-then-to-start-le-MOST_TURNED-clause-behind : goal.returns-then-to-start-le-MOST_TURNED-clause-behind
returns-then-to-start-le-MOST_TURNED-clause-behind c =
    ap (drop (c.args.to + (c.args.end - c.args.start))) c.turn.ensures.items
    ∙ turned_behind c.args.characters.now.items c.args.start (c.args.to + (c.args.end - c.args.start)) (c.args.end - c.args.start) (omega (arith, c.requires.on)) c.requires.room

pub returns-else-to-start-le-MOST_TURNED-clause-moved : goal.returns-else-to-start-le-MOST_TURNED-clause-moved
returns-else-to-start-le-MOST_TURNED-clause-moved c =
    ap (λ ys. take (c.args.end - c.args.start) (drop c.args.to ys)) c.copy_within.ensures.items
    ∙ copied_moved c.args.characters.now.items c.args.start c.args.end c.args.to c.requires.ordered (omega (arith, c.requires.on, c.requires.ordered, c.requires.room)) c.requires.room

pub returns-else-to-start-le-MOST_TURNED-clause-before : goal.returns-else-to-start-le-MOST_TURNED-clause-before
returns-else-to-start-le-MOST_TURNED-clause-before c =
    ap (take c.args.start) c.copy_within.ensures.items
    ∙ copied_before c.args.characters.now.items c.args.start c.args.end c.args.to c.requires.ordered (omega (arith, c.requires.on, c.requires.ordered, c.requires.room)) c.requires.room c.args.start c.requires.on

pub returns-else-to-start-le-MOST_TURNED-clause-behind : goal.returns-else-to-start-le-MOST_TURNED-clause-behind
returns-else-to-start-le-MOST_TURNED-clause-behind c =
    ap (drop (c.args.to + (c.args.end - c.args.start))) c.copy_within.ensures.items
    ∙ copied_behind c.args.characters.now.items c.args.start c.args.end c.args.to c.requires.ordered (omega (arith, c.requires.on, c.requires.ordered, c.requires.room)) c.requires.room (c.args.to + (c.args.end - c.args.start)) (omega arith)
