use Rattle.std.proofs.Common.{rules, refl, append-nil}
use Rattle.rga_exchange.specs.Taking.{intake}
use Rattle.rga_exchange.proofs.DeletionRunLemmas.{none_told}
use Rattle.rga_exchange.proofs.TakingLaws.{line_takes}
use Rattle.rga_exchange.proofs.taking.take_line.Goals as goal

pub returns-in-Some-clause-taken : goal.returns-in-Some-clause-taken
returns-in-Some-clause-taken g c =
    line_takes _ (intake g.T.Taker.limit g.T.Taker.content g.T.Taker.follows c.args.taker.now c.take.new.taker) _ c.args.line.now _ _ _ (rw c.in-Some.is at c.requires.insertion) refl c.take.ensures.taken

pub returns-in-Some-read_deletion-clause-taken : goal.returns-in-Some-read_deletion-clause-taken
returns-in-Some-read_deletion-clause-taken g c =
    line_takes _ (intake g.T.Taker.limit g.T.Taker.content g.T.Taker.follows c.args.taker.now c.take-in-Some-read_deletion.new.taker) _ c.args.line.now _ _ _ c.in-Some-read_deletion.ensures refl c.take-in-Some-read_deletion.ensures.taken

pub returns-in-Ok-true-clause-taken : goal.returns-in-Ok-true-clause-taken
returns-in-Ok-true-clause-taken g c =
    let said = c.in-Ok-true.ensures.said (search rules) in
    line_takes _ (intake g.T.Taker.limit g.T.Taker.content g.T.Taker.follows c.args.taker.now c.take_all.new.taker) _ c.args.line.now _ _ _ said.1 (append-nil _) (rw (c.deref.ensures.value, said.2) at c.take_all.ensures.taken)

pub returns-in-Some-clause-deletion_runs : goal.returns-in-Some-clause-deletion_runs
returns-in-Some-clause-deletion_runs g c = λ _. none_told c.args.deletion_runs.now c.args.line.now _ (rw c.in-Some.is at c.requires.insertion) refl

pub returns-in-Some-read_deletion-clause-deletion_runs : goal.returns-in-Some-read_deletion-clause-deletion_runs
returns-in-Some-read_deletion-clause-deletion_runs g c = λ _. none_told c.args.deletion_runs.now c.args.line.now _ c.in-Some-read_deletion.ensures refl

pub returns-in-Ok-true-clause-deletion_runs : goal.returns-in-Ok-true-clause-deletion_runs
returns-in-Ok-true-clause-deletion_runs g c = λ _. none_told c.args.deletion_runs.now c.args.line.now _ (c.in-Ok-true.ensures.said (search rules)).1 refl
