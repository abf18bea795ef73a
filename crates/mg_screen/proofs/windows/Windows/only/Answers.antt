use Rattle.std.proofs.Common.{◌∙◌, ap, sym, subst}
use Rattle.mg_screen.specs.Layout.{only_layout, KeepsRows}
use Rattle.mg_screen.proofs.HeightLaws.{only_made}
use Rattle.mg_screen.proofs.LayoutLaws.{only_fills}
use Rattle.mg_screen.proofs.windows.Windows.only.Goals as goal

pub returns-clause-exact : goal.returns-clause-exact
returns-clause-exact g c = only_made c.self.inside.heights.items c.truncate.new.self.items c.self.inside.shown.items c.truncate-2.new.self.items c.self.inside.current c.self.inside.rows c.index-shown.result.now
    c.self.invariant c.index-shown.ensures c.truncate.ensures.items c.truncate-2.ensures.items ∙ ap only_layout c.self.view_is

pub returns-clause-filled : goal.returns-clause-filled
returns-clause-filled g c = subst (KeepsRows c.args.self.now) (sym (returns-clause-exact g c)) (only_fills c.args.self.now)
