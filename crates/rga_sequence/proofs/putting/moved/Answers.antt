use Rattle.std.proofs.Common.{arith}
use Rattle.rga_sequence.proofs.PlaceLaws.{early_place, early_before, early_behind, moved_place, moved_before, moved_behind}
use Rattle.rga_sequence.proofs.PutLaws.{room_first, room_second}
use Rattle.rga_sequence.proofs.putting.moved.Goals as goal

pub returns-then-at-cut-clause-place : goal.returns-then-at-cut-clause-place
returns-then-at-cut-clause-place c = λ bs p q. early_place bs c.args.at.block c.args.at.index c.args.cut p q c.if-at-cut.true

pub returns-then-at-cut-clause-room : goal.returns-then-at-cut-clause-room
returns-then-at-cut-clause-room c = λ bs most. omega (arith, room_first bs c.args.at.block c.args.cut, c.requires.second)

pub returns-then-at-cut-clause-before : goal.returns-then-at-cut-clause-before
returns-then-at-cut-clause-before c = λ bs p. early_before bs c.args.at.block c.args.at.index c.args.cut c.if-at-cut.true

pub returns-then-at-cut-clause-behind : goal.returns-then-at-cut-clause-behind
returns-then-at-cut-clause-behind c = λ bs p. early_behind bs c.args.at.block c.args.at.index c.args.cut c.if-at-cut.true

pub returns-else-at-cut-clause-place : goal.returns-else-at-cut-clause-place
returns-else-at-cut-clause-place c = λ bs p q. moved_place bs c.args.at.block c.args.at.index c.args.cut p (omega (arith, c.if-at-cut.false))

pub returns-else-at-cut-clause-room : goal.returns-else-at-cut-clause-room
returns-else-at-cut-clause-room c = λ bs most. omega (arith, room_second bs c.args.at.block c.args.cut, most, c.requires.first)

pub returns-else-at-cut-clause-before : goal.returns-else-at-cut-clause-before
returns-else-at-cut-clause-before c = λ bs p. moved_before bs c.args.at.block c.args.at.index c.args.cut (omega (arith, c.if-at-cut.false)) p

pub returns-else-at-cut-clause-behind : goal.returns-else-at-cut-clause-behind
returns-else-at-cut-clause-behind c = λ bs p. moved_behind bs c.args.at.block c.args.at.index c.args.cut (omega (arith, c.if-at-cut.false)) p
