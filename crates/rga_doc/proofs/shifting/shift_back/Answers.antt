use Rattle.std.proofs.Common.{◌≡◌, ◌+◌, ◌-◌, ℕ, List, take, drop, ap, ◌∙◌, arith}
use Rattle.rga_doc.proofs.ShiftLaws.{turned_before, later_moved, turned_behind, copied_moved, copied_before, copied_behind}
use Rattle.rga_doc.proofs.shifting.shift_back.Goals as goal

pub returns-then-start-to-le-MOST_TURNED-clause-moved : goal.returns-then-start-to-le-MOST_TURNED-clause-moved
returns-then-start-to-le-MOST_TURNED-clause-moved c =
    let xs : List ℕ = c.args.characters.now.items in
    let n : ℕ = c.args.end - c.args.start in
    let by : ℕ = c.args.start - c.args.to in
    let same : c.args.to + by ≡ c.args.start = omega (arith, c.requires.back) in
    ap (λ ys. take n (drop c.args.to ys)) c.turn.ensures.items
    ∙ later_moved xs c.args.to c.args.end by (omega (arith, c.requires.back, c.requires.ordered)) c.requires.within n (omega (arith, c.requires.back, c.requires.ordered))
    ∙ ap (λ m. drop m (take c.args.end xs)) same

pub returns-then-start-to-le-MOST_TURNED-clause-before : goal.returns-then-start-to-le-MOST_TURNED-clause-before
returns-then-start-to-le-MOST_TURNED-clause-before c =
    ap (take c.args.to) c.turn.ensures.items
    ∙ turned_before c.args.characters.now.items c.args.to c.args.end (c.args.start - c.args.to) (omega (arith, c.requires.back, c.requires.ordered)) c.requires.within

pub returns-then-start-to-le-MOST_TURNED-clause-behind : goal.returns-then-start-to-le-MOST_TURNED-clause-behind
returns-then-start-to-le-MOST_TURNED-clause-behind c =
    ap (drop c.args.end) c.turn.ensures.items
    ∙ turned_behind c.args.characters.now.items c.args.to c.args.end (c.args.start - c.args.to) (omega (arith, c.requires.back, c.requires.ordered)) c.requires.within

pub returns-else-start-to-le-MOST_TURNED-clause-moved : goal.returns-else-start-to-le-MOST_TURNED-clause-moved
returns-else-start-to-le-MOST_TURNED-clause-moved c =
    ap (λ ys. take (c.args.end - c.args.start) (drop c.args.to ys)) c.copy_within.ensures.items
    ∙ copied_moved c.args.characters.now.items c.args.start c.args.end c.args.to c.requires.ordered c.requires.within (omega (arith, c.requires.back, c.requires.ordered, c.requires.within))

pub returns-else-start-to-le-MOST_TURNED-clause-before : goal.returns-else-start-to-le-MOST_TURNED-clause-before
returns-else-start-to-le-MOST_TURNED-clause-before c =
    ap (take c.args.to) c.copy_within.ensures.items
    ∙ copied_before c.args.characters.now.items c.args.start c.args.end c.args.to c.requires.ordered c.requires.within (omega (arith, c.requires.back, c.requires.ordered, c.requires.within)) c.args.to (omega arith)

pub returns-else-start-to-le-MOST_TURNED-clause-behind : goal.returns-else-start-to-le-MOST_TURNED-clause-behind
returns-else-start-to-le-MOST_TURNED-clause-behind c =
    ap (drop c.args.end) c.copy_within.ensures.items
    ∙ copied_behind c.args.characters.now.items c.args.start c.args.end c.args.to c.requires.ordered c.requires.within (omega (arith, c.requires.back, c.requires.ordered, c.requires.within)) c.args.end (omega (arith, c.requires.back, c.requires.ordered))
