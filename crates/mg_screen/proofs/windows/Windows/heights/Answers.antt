use Rattle.std.proofs.Common.{◌∙◌, ap, sym}
use Rattle.mg_screen.specs.Layout.{heights}
use Rattle.mg_screen.proofs.HeightLaws.{heights-windows_of}
use Rattle.mg_screen.proofs.windows.Windows.heights.Goals as goal

pub returns : goal.returns
returns g c = c.deref.ensures.value ∙ sym (heights-windows_of c.self.inside.heights.items c.self.inside.shown.items c.self.invariant.paired)
    ∙ ap (λ l. heights l.windows) c.self.view_is
