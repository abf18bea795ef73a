use Rattle.std.proofs.Common.{◌++◌, ap, ◌∙◌, arith}
use Rattle.rga_ops.proofs.CaseSteps.{on_ok_map}
use Rattle.rga_sequence.proofs.CountLaws.{ids_range}
use Rattle.rga_sequence.proofs.scans.push_id_range.Goals as goal

pub returns : goal.returns
returns c = record {
  ok =
      on_ok_map c.push_ids.result
      (λ e. e ∙ ap (λ xs. c.args.list.now.items ++ xs) (ids_range c.args.entries.now c.args.lo c.args.hi c.min.result (omega (arith, c.min.ensures)) c.min.ensures))
      c.push_ids.ensures.ok;
}
