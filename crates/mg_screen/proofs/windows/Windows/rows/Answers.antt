use Rattle.std.proofs.Common.{subst}
use Rattle.mg_screen.specs.Layout.{FillsRows}
use Rattle.mg_screen.proofs.HeightLaws.{fills}
use Rattle.mg_screen.proofs.windows.Windows.rows.Goals as goal

pub returns-clause-filled : goal.returns-clause-filled
returns-clause-filled g c = subst (FillsRows c.self.inside.rows) c.self.view_is (fills c.self.inside.heights.items c.self.inside.shown.items c.self.inside.current c.self.inside.rows c.self.invariant)
