use Rattle.std.proofs.Common.{arith}
use Rattle.mg_screen.proofs.windows.Windows.new.Goals as goal

pub overflow_sub-rows : goal.overflow_sub-rows
overflow_sub-rows g c = omega arith
