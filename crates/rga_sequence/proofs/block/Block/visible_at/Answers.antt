use Rattle.std.proofs.Common.{◌≤◌, length, sym, ap, ◌∙◌, arith}
use Rattle.std.specs.List.{slice_get}
use Rattle.rga_sequence.specs.Entries.{ids, visible_count, visible_ids}
use Rattle.rga_sequence.proofs.CountLaws.{all_visible}
use Rattle.rga_sequence.proofs.block.Block.visible_at.Goals as goal

pub returns-then-self-as_slice : goal.returns-then-self-as_slice
returns-then-self-as_slice c =
    let all : length c.self.inside.entries.items ≤ visible_count c.self.inside.entries.items = omega (arith, ap length c.as_slice.ensures.value, c.if-self-as_slice.true, c.self.invariant.counted) in
    c.id_at.ensures
    ∙ ap (λ xs. slice_get (ids xs) c.args.k) (c.as_slice-then-self-as_slice.ensures.value ∙ sym (all_visible c.self.inside.entries.items all))
    ∙ ap (λ xs. slice_get (visible_ids xs) c.args.k) c.self.view_is
