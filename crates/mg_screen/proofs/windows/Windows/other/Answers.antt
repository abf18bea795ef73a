use Rattle.std.proofs.Common.{◌∙◌, ap, arith, length, sym, subst}
use Rattle.mg_screen.specs.Layout.{other_layout, KeepsRows}
use Rattle.mg_screen.proofs.HeightLaws.{next_window, first_window}
use Rattle.mg_screen.proofs.LayoutLaws.{other_fills}
use Rattle.mg_screen.proofs.windows.Windows.other.Goals as goal

pub returns-then-self-as_slice-clause-exact : goal.returns-then-self-as_slice-clause-exact
returns-then-self-as_slice-clause-exact g c =
    let is = ap length c.as_slice.ensures.value in
    next_window c.self.inside.heights.items c.self.inside.shown.items c.self.inside.current c.self.invariant.paired (omega (arith, is, c.if-self-as_slice.true)) ∙ ap other_layout c.self.view_is

pub returns-else-self-as_slice-clause-exact : goal.returns-else-self-as_slice-clause-exact
returns-else-self-as_slice-clause-exact g c =
    let is = ap length c.as_slice.ensures.value in
    first_window c.self.inside.heights.items c.self.inside.shown.items c.self.inside.current c.self.invariant.paired (omega (arith, is, c.if-self-as_slice.false)) ∙ ap other_layout c.self.view_is

pub returns-then-self-as_slice-clause-filled : goal.returns-then-self-as_slice-clause-filled
returns-then-self-as_slice-clause-filled g c = subst (KeepsRows c.args.self.now) (sym (returns-then-self-as_slice-clause-exact g c)) (other_fills c.args.self.now)

pub returns-else-self-as_slice-clause-filled : goal.returns-else-self-as_slice-clause-filled
returns-else-self-as_slice-clause-filled g c = subst (KeepsRows c.args.self.now) (sym (returns-else-self-as_slice-clause-exact g c)) (other_fills c.args.self.now)
