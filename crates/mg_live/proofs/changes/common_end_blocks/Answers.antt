use Rattle.std.proofs.Common.{arith, ◌≤◌, ◌+◌, ◌-◌, length}
use Rattle.std.proofs.lemmas.List.{length-take}
use Rattle.mg_live.proofs.ChangeLaws.{end_block_on, end_known}
use Rattle.mg_live.proofs.changes.common_end_blocks.Goals as goal

pub blocks-2-init : goal.blocks-2-init
blocks-2-init c = record {
  exact = end_known c.args.known c.args.old.now c.args.new.now c.requires.old c.requires.new c.requires.alike;
  old = c.requires.old;
  new = c.requires.new;
}

pub blocks-2-preserved : goal.blocks-2-preserved
blocks-2-preserved c =
    let old = c.args.old.now in
    let new = c.args.new.now in
    let i = c.blocks-2.count in
    let in_old : i + 64 ≤ length old = omega (arith, c.end_alike.ensures.old c.blocks-2-test.true, length-take (length old - i) old, c.blocks-2.invariant.old) in
    let in_new : i + 64 ≤ length new = omega (arith, c.end_alike.ensures.new c.blocks-2-test.true, length-take (length new - i) new, c.blocks-2.invariant.new) in
    let on = end_block_on i 64 old new in_old in_new (c.end_alike.ensures.alike c.blocks-2-test.true) in
    record { exact = omega (arith, c.blocks-2.invariant.exact, on); old = in_old; new = in_new }
