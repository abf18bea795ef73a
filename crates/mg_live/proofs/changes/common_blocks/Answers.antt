use Rattle.std.proofs.Common.{arith, ap, sym, ◌∙◌, ◌-◌, ◌≤◌, ◌+◌, length, drop, take}
use Rattle.std.proofs.lemmas.List.{length-drop, take_all}
use Rattle.mg_live.proofs.ChangeLaws.{block_on, front_known}
use Rattle.mg_live.proofs.changes.common_blocks.Goals as goal

pub blocks-2-init : goal.blocks-2-init
blocks-2-init c = record {
  exact = front_known c.args.known c.args.old.now c.args.new.now c.requires.old c.requires.new c.requires.alike;
  old = c.requires.old;
  new = c.requires.new;
}

pub blocks-2-preserved : goal.blocks-2-preserved
blocks-2-preserved c =
    let old = c.args.old.now in
    let new = c.args.new.now in
    let i = c.blocks-2.count in
    let in_old : i + 64 ≤ length old = omega (arith, c.begin_alike.ensures.old c.blocks-2-test.true, length-drop i old) in
    let in_new : i + 64 ≤ length new = omega (arith, c.begin_alike.ensures.new c.blocks-2-test.true, length-drop i new) in
    let alike = c.begin_alike.ensures.alike c.blocks-2-test.true in
    let on = block_on i 64 old new in_old in_new (ap (take 64) (sym (take_all (length old - i) (drop i old) (omega (arith, length-drop i old)))) ∙ alike ∙ ap (take 64) (take_all (length new - i) (drop i new) (omega (arith, length-drop i new)))) in
    record { exact = omega (arith, c.blocks-2.invariant.exact, on); old = in_old; new = in_new }
