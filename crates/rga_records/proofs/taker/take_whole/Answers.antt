use Rattle.std.proofs.Common.{◌≡◌, ℕ, ◌+◌, List, ◌∷◌, drop, sym, ap, ◌∙◌}
use Rattle.std.proofs.lemmas.List.{drop_all, drop_more}
use Rattle.rga_ops.specs.Content.{Content}
use Rattle.rga_ops.specs.Answer.{and_take, taken_one_by_one}
use Rattle.rga_ops.specs.declared.op.Op.{Op}
use Rattle.rga_records.proofs.taker.take_whole.Goals as goal

-- one operation more is taken
pub loop-op-preserved : goal.loop-op-preserved
loop-op-preserved c =
    let limit : ℕ = c.loop-op.records.limit in
    let held : Content = c.loop-op.records.content in
    let rest : List Op = drop (c.loop-op.op-index + 1) c.args.ops.now in
    let split : drop c.loop-op.op-index c.args.ops.now ≡ c.op-item.result ∷ rest = drop_more c.args.ops.now c.loop-op.op-index c.op-item.result c.loop-op-test.true ∙ ap (λ x. x ∷ rest) (sym c.op-item.is) in
    record {
      limit = c.take_noted.ensures.limit ∙ c.loop-op.invariant.limit;
      rest = ap (λ n. taken_one_by_one n c.take_noted.new.records.content rest) c.take_noted.ensures.limit
          ∙ sym (ap (λ r. and_take r (λ d. taken_one_by_one limit d rest)) c.in_default.ensures.ok)
          ∙ ap (taken_one_by_one limit held) (sym split) ∙ c.loop-op.invariant.rest;
      back = c.take_noted.ensures.steps;
      start = c.take_noted.ensures.start ∙ c.loop-op.invariant.start;
    }

pub returns-in-Err-clause-refused : goal.returns-in-Err-clause-refused
returns-in-Err-clause-refused c = λ other.
    let limit : ℕ = c.loop-op.records.limit in
    let rest : List Op = drop (c.loop-op.op-index + 1) c.args.ops.now in
    sym c.loop-op.invariant.rest
    ∙ ap (taken_one_by_one limit c.loop-op.records.content) (drop_more c.args.ops.now c.loop-op.op-index c.op-item.result c.loop-op-test.true ∙ ap (λ x. x ∷ rest) (sym c.op-item.is))
    ∙ ap (λ r. and_take r (λ d. taken_one_by_one limit d rest)) (c.in-Err.ensures.refused other)

pub returns-clause-ok : goal.returns-clause-ok
returns-clause-ok c = sym c.loop-op.invariant.rest ∙ ap (taken_one_by_one c.loop-op.records.limit c.loop-op.records.content) (drop_all c.loop-op.op-index c.args.ops.now c.loop-op-test.false)
