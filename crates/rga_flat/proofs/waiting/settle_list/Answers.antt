use Rattle.std.proofs.Common.{sym, ◌∙◌}
use Rattle.rga_flat.proofs.WaitingLaws.{settled_now, inserted_now}
use Rattle.rga_flat.proofs.waiting.settle_list.Goals as goal

pub returns-clause-settles : goal.returns-clause-settles
returns-clause-settles c =
    settled_now c.args.waiting.now c.args.done.now c.insert.new.self c.args.id c.in_ok-insert.ensures.updates.0 (sym c.contains_key.ensures ∙ c.if-not-contains_key.false)

pub returns-clause-inserted : goal.returns-clause-inserted
returns-clause-inserted c = λ d h. inserted_now c.args.waiting.now c.args.done.now c.insert.new.self c.args.id c.in_ok-insert.ensures.updates.0 d h
