use Rattle.std.proofs.Common.{ap, arith, length}
use Rattle.mg_screen.proofs.HeightLaws.{length-windows_of}
use Rattle.mg_screen.proofs.windows.Windows.current.Goals as goal

pub returns-clause-within : goal.returns-clause-within
returns-clause-within g c =
    let count = length-windows_of c.self.inside.heights.items c.self.inside.shown.items c.self.invariant.paired in
    let same = ap (λ l. length l.windows) c.self.view_is in
    omega (arith, count, same, c.self.invariant.here)
