use Rattle.std.proofs.Common.{◌∙◌, ◌<◌, ap, arith, length, rules}
use Rattle.mg_screen.specs.Layout.{layout, shown_layout}
use Rattle.mg_screen.proofs.HeightLaws.{shown_keeps, windows-shown, counted, keeps}
use Rattle.mg_screen.proofs.windows.Windows.show.Goals as goal

pub index_mut-requires : goal.index_mut-requires
index_mut-requires g c =
    let count = counted c.self.inside.heights.items c.self.inside.shown.items c.self.inside.current c.args.self.now c.self.invariant.paired c.self.view_is in
    let inside : c.args.index < length c.self.inside.shown.items = omega (arith, count, c.requires, c.self.invariant.paired) in
    search rules

pub invariant_of-self : goal.invariant_of-self
invariant_of-self g c = shown_keeps c.self.inside.heights.items c.self.inside.shown.items c.self.inside.current c.args.index c.self.inside.rows c.args.shown c.self.invariant

pub returns-clause-exact : goal.returns-clause-exact
returns-clause-exact g c = ap (λ ws. layout ws c.self.inside.current) (windows-shown c.args.index c.self.inside.heights.items c.self.inside.shown.items c.args.shown c.self.invariant.paired) ∙ ap (shown_layout c.args.index c.args.shown) c.self.view_is

pub returns-clause-filled : goal.returns-clause-filled
returns-clause-filled g c = keeps c.self.inside.heights.items _ c.self.inside.shown.items _ c.self.inside.current _ c.self.inside.rows _ c.self.invariant (invariant_of-self g c) c.self.view_is
