use Rattle.rga_store.proofs.Prelude.{◌≡◌, drop, all_checked}
use Rattle.rga_store.proofs.answers.early_answer.check_each.Given as goal

-- what is left is answered as the whole list
abbrev pub invariant-loop-op : goal.invariant-loop-op
invariant-loop-op l = all_checked (drop l.op-index l.ops) ≡ all_checked l.initial.ops
