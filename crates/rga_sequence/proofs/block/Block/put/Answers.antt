use Rattle.std.proofs.Common.{◌≡◌, ◌≤◌, ◌+◌, List, length, sym, subst, arith}
use Rattle.rga_sequence.specs.declared.entry.Entry.{Entry}
use Rattle.rga_sequence.specs.declared.block.TheConstants.{MOST}
use Rattle.rga_sequence.specs.Entries.{visible_count}
use Rattle.rga_sequence.specs.Blocks.{IsBlock, AreFrom, insert_all}
use Rattle.rga_sequence.proofs.BlockLaws.{from_put}
use Rattle.rga_sequence.proofs.CountLaws.{count_put, count_within, length_insert}
use Rattle.rga_sequence.proofs.block.Block.put.Goals as goal

pub overflow_add-visible : goal.overflow_add-visible
overflow_add-visible c =
    let room : length c.self.inside.entries.items + length c.args.more.now ≤ MOST = subst (λ ys. length ys + length c.args.more.now ≤ MOST) (sym c.self.view_is) c.requires.room in
    omega (arith, room, c.self.invariant.counted, count_within c.self.inside.entries.items, c.count_visible.ensures, count_within c.args.more.now)

pub invariant_of-self-2 : goal.invariant_of-self-2
invariant_of-self-2 c =
    let xs : List Entry = c.self.inside.entries.items in
    let es : List Entry = c.args.more.now in
    let more : visible_count (insert_all xs c.args.index es) ≡ visible_count xs + visible_count es = count_put xs c.args.index es in
    let long : length (insert_all xs c.args.index es) ≡ length xs + length es = length_insert xs c.args.index es in
    let room : length xs + length es ≤ MOST = subst (λ ys. length ys + length es ≤ MOST) (sym c.self.view_is) c.requires.room in
    subst (IsBlock (c.self.inside.visible + c.count_visible.result) c.new_least-least.result) (sym c.in_ok-insert_into.ensures.ok)
    (record {
      counted = omega (arith, more, c.self.invariant.counted, c.count_visible.ensures);
      from_least = from_put c.new_least-least.result es xs c.args.index (subst (AreFrom c.new_least-least.result) c.as_slice.ensures.value c.new_least-least.ensures.old) c.new_least-least.ensures.new;
      room = omega (arith, long, room);
    })
