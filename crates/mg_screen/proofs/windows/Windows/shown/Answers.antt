use Rattle.std.proofs.Common.{◌∙◌, ap, sym}
use Rattle.mg_screen.specs.Layout.{all_shown}
use Rattle.mg_screen.proofs.HeightLaws.{shown-windows_of}
use Rattle.mg_screen.proofs.windows.Windows.shown.Goals as goal

pub returns : goal.returns
returns g c = c.deref.ensures.value ∙ sym (shown-windows_of c.self.inside.heights.items c.self.inside.shown.items c.self.invariant.paired)
    ∙ ap (λ l. all_shown l.windows) c.self.view_is
