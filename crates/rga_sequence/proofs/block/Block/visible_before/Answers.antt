use Rattle.std.proofs.Common.{◌≤◌, length, sym, ap, subst, arith}
use Rattle.rga_sequence.specs.Entries.{visible_count}
use Rattle.rga_sequence.proofs.CountLaws.{count_all}
use Rattle.rga_sequence.proofs.block.Block.visible_before.Goals as goal

pub returns-then-self-as_slice : goal.returns-then-self-as_slice
returns-then-self-as_slice c =
    let all : length c.self.inside.entries.items ≤ visible_count c.self.inside.entries.items = omega (arith, ap length c.as_slice.ensures.value, c.if-self-as_slice.true, c.self.invariant.counted) in
    sym (count_all c.args.self.now c.args.index c.requires (subst (λ xs. length xs ≤ visible_count xs) c.self.view_is all))
