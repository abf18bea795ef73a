use Rattle.std.proofs.Common.{◌≡◌, ◌≤◌, ◌<◌, ◌+◌, ◌-◌, List, [], ◌∷◌, length, slice_index_or, sym, ap, ◌∙◌, subst, arith}
use Rattle.std.specs.Prelude.{remove}
use Rattle.rga_sequence.specs.declared.entry.Entry.{Entry}
use Rattle.rga_sequence.specs.declared.block.TheConstants.{MOST}
use Rattle.rga_sequence.specs.Entries.{visible_count}
use Rattle.rga_sequence.specs.Blocks.{AreFrom, mark_at_index}
use Rattle.rga_sequence.proofs.BlockLaws.{from_marked}
use Rattle.rga_sequence.proofs.CountLaws.{length_marked, count_marked, count_remove, count_within}
use Rattle.rga_sequence.proofs.block.Block.mark.Goals as goal

pub index-requires-2 : goal.index-requires-2
index-requires-2 c =
    let xs : List Entry = c.self.inside.entries.items in
    let within : c.args.index < length xs = subst (λ ys. c.args.index < length ys) (sym c.self.view_is) c.requires in
    let same : length (mark_at_index c.args.deleted c.args.index xs) ≡ length xs = length_marked c.args.deleted xs c.args.index in
    subst (λ n. c.args.index < n) (sym c.mark.new.entries.ok.0) (subst (λ ys. c.args.index < length ys) (sym c.mark.ensures) (omega (arith, same, within)))

pub overflow_sub-self : goal.overflow_sub-self
overflow_sub-self c =
    let xs : List Entry = c.self.inside.entries.items in
    let within : c.args.index < length xs = subst (λ ys. c.args.index < length ys) (sym c.self.view_is) c.requires in
    let parts : visible_count xs ≡ visible_count (remove xs c.args.index) + visible_count (c.index.result.now ∷ []) = count_remove xs c.args.index c.index.result.now within c.index.ensures in
    omega (arith, parts, c.self.invariant.counted, c.count_one-before.ensures)

pub overflow_add-self : goal.overflow_add-self
overflow_add-self c =
    omega (arith, c.self.invariant.counted, c.self.invariant.room, count_within c.self.inside.entries.items, c.count_one-now.ensures, count_within (c.index-2.result.now ∷ []))

pub invariant_of-self : goal.invariant_of-self
invariant_of-self c =
    let xs : List Entry = c.self.inside.entries.items in
    let within : c.args.index < length xs = subst (λ ys. c.args.index < length ys) (sym c.self.view_is) c.requires in
    let same : length (mark_at_index c.args.deleted c.args.index xs) ≡ length xs = length_marked c.args.deleted xs c.args.index in
    let parts : visible_count xs ≡ visible_count (remove xs c.args.index) + visible_count (c.index.result.now ∷ []) = count_remove xs c.args.index c.index.result.now within c.index.ensures in
    let now : c.index-2.result.now ≡ slice_index_or (mark_at_index c.args.deleted c.args.index xs) c.args.index c.index-2.result.now = c.index-2.ensures ∙ ap (λ ys. slice_index_or ys c.args.index c.index-2.result.now) c.mark.ensures in
    let more : visible_count (mark_at_index c.args.deleted c.args.index xs) + visible_count (c.index.result.now ∷ []) ≡ visible_count xs + visible_count (c.index-2.result.now ∷ []) = count_marked c.args.deleted xs c.args.index c.index.result.now c.index-2.result.now within c.index.ensures now in
    let counted : c.self.inside.visible - c.count_one-before.result + c.count_one-now.result ≡ visible_count (mark_at_index c.args.deleted c.args.index xs) = omega (arith, parts, more, c.self.invariant.counted, c.count_one-before.ensures, c.count_one-now.ensures) in
    record {
      counted = counted ∙ ap visible_count (sym c.mark.ensures);
      from_least = subst (λ es. AreFrom c.self.inside.least es) (sym c.mark.ensures) (from_marked c.args.deleted c.self.inside.least xs c.args.index c.self.invariant.from_least);
      room = subst (λ es. length es ≤ MOST) (sym c.mark.ensures) (omega (arith, same, c.self.invariant.room));
    }
