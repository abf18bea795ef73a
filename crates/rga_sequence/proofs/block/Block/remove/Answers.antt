use Rattle.std.proofs.Common.{◌≡◌, ◌<◌, ◌+◌, ◌-◌, List, length, sym, ap, ◌∙◌, subst, arith}
use Rattle.std.specs.Prelude.{remove}
use Rattle.rga_sequence.specs.declared.entry.Entry.{Entry}
use Rattle.rga_sequence.specs.Entries.{visible_count}
use Rattle.rga_sequence.specs.Blocks.{IsBlock}
use Rattle.rga_sequence.proofs.BlockLaws.{from_remove}
use Rattle.rga_sequence.proofs.CountLaws.{count_remove}
use Rattle.std.proofs.lemmas.List.Edits.{length-remove}
use Rattle.rga_sequence.proofs.block.Block.remove.Goals as goal

pub overflow_sub-self : goal.overflow_sub-self
overflow_sub-self c =
    let counted : c.self.inside.visible ≡ visible_count (remove c.self.inside.entries.items c.args.index) + c.count_one.result =
    c.self.invariant.counted
    ∙ count_remove c.self.inside.entries.items c.args.index c.remove-entry.result (subst (λ xs. c.args.index < length xs) (sym c.self.view_is) c.requires) c.remove-entry.ensures.value
    ∙ ap (λ n. visible_count (remove c.self.inside.entries.items c.args.index) + n) (sym c.count_one.ensures) in
    omega (arith, counted)

pub invariant_of-self : goal.invariant_of-self
invariant_of-self c =
    let counted : c.self.inside.visible ≡ visible_count (remove c.self.inside.entries.items c.args.index) + c.count_one.result =
    c.self.invariant.counted
    ∙ count_remove c.self.inside.entries.items c.args.index c.remove-entry.result (subst (λ xs. c.args.index < length xs) (sym c.self.view_is) c.requires) c.remove-entry.ensures.value
    ∙ ap (λ n. visible_count (remove c.self.inside.entries.items c.args.index) + n) (sym c.count_one.ensures) in
    let xs : List Entry = c.self.inside.entries.items in
    let one : length (remove xs c.args.index) + 1 ≡ length xs = length-remove xs c.args.index (subst (λ ys. c.args.index < length ys) (sym c.self.view_is) c.requires) in
    subst (IsBlock (c.self.inside.visible - c.count_one.result) c.self.inside.least) (sym c.remove-entry.ensures.items)
    (record {
      counted = omega (arith, counted);
      from_least = from_remove c.self.inside.least xs c.args.index c.self.invariant.from_least;
      room = omega (arith, one, c.self.invariant.room);
    })
