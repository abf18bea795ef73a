use Rattle.std.proofs.Common.{◌≡◌, ◌≤◌, ℕ, ◌+◌, List, length, drop, sym, ap, ◌∙◌, subst, arith}
use Rattle.std.proofs.lemmas.List.{length-drop}
use Rattle.rga_sequence.specs.declared.entry.Entry.{Entry}
use Rattle.rga_sequence.specs.Blocks.{AreFrom}
use Rattle.rga_sequence.proofs.BlockLaws.{all_larger, from_drop}
use Rattle.rga_sequence.proofs.block.Block.past_larger.Goals as goal

whole : (n : ℕ) (xs : List Entry) → n ≤ length xs → length xs ≡ n + length (drop n xs)
whole n xs h = omega (arith, length-drop n xs, h)

pub returns-then-is_larger-clause-index : goal.returns-then-is_larger-clause-index
returns-then-is_larger-clause-index c =
    let n : ℕ = c.args.from in
    ap length (c.as_slice.ensures.value ∙ c.self.view_is)
    ∙ whole n c.args.self.now c.requires
    ∙ ap (λ m. n + m) (sym (all_larger c.self.inside.least c.args.id (drop n c.args.self.now) (sym c.is_larger.ensures ∙ c.if-is_larger.true)
    (from_drop c.self.inside.least c.args.self.now n (subst (λ xs. AreFrom c.self.inside.least xs) c.self.view_is c.self.invariant.from_least))))
