use Rattle.std.proofs.Common.{◌-◌, length, ap, arith}
use Rattle.std.proofs.lemmas.Iterator.{YieldsList-from_chars}
use Rattle.std.proofs.lemmas.List.{length_push, at_drop_all}
use Rattle.std.proofs.lemmas.Iterator.Consumers.{YieldsList-turn, YieldsList-end}
use Rattle.std.specs.Str.{chars}
use Rattle.mg_screen.specs.Cells.{cells_from, cells_within, width_of}
use Rattle.mg_screen.proofs.CellLaws.{beginning_width_on, beginning_ends}
use Rattle.mg_screen.proofs.cells.text_width.Goals as goal

pub returns-then-width-most : goal.returns-then-width-most
returns-then-width-most c =
    let turn = YieldsList-turn (YieldsList-from_chars c.args.text.now c.utf8.text cc) c.loop-c.yielded _ c.loop-c.yielded_by _ _ c.in-Some.c c.in-Some.is c.next.ensures.steps in
    let none = ap width_of (beginning_ends (chars c.args.text.now) c.args.most c.loop-c.column (length c.loop-c.yielded) c.in-Some.c c.cell_width-width.result
    turn.0 turn.1 c.cell_width-width.ensures.width c.if-width-most.true) in
    omega (arith, none, c.loop-c.invariant.measured)

pub loop-c-preserved : goal.loop-c-preserved
loop-c-preserved c =
    let turn = YieldsList-turn (YieldsList-from_chars c.args.text.now c.utf8.text cc) c.loop-c.yielded _ c.loop-c.yielded_by _ _ c.in-Some.c c.in-Some.is c.next.ensures.steps in
    let more = beginning_width_on (chars c.args.text.now) c.args.most c.loop-c.column (length c.loop-c.yielded) c.in-Some.c c.cell_width-width.result
    turn.0 turn.1 c.cell_width-width.ensures.width (omega (arith, c.if-width-most.false)) c.loop-c.invariant.fits c.loop-c.invariant.measured in
    let on = length_push c.loop-c.yielded c.in-Some.c in
    record {
      measured = rw on more;
      fits = omega (arith, c.if-width-most.false, c.loop-c.invariant.fits);
    }

pub returns : goal.returns
returns c =
    let end = YieldsList-end (YieldsList-from_chars c.args.text.now c.utf8.text cc) c.loop-c.yielded _ c.loop-c.yielded_by _ _ c.in-None.is c.next.ensures.steps in
    let none = at_drop_all (λ cs. width_of (cells_within (c.args.most - c.loop-c.column) (cells_from c.loop-c.column cs))) (chars c.args.text.now) (length c.loop-c.yielded) (omega (arith, end.1)) in
    omega (arith, none, c.loop-c.invariant.measured)
