use Rattle.std.proofs.Common.{rules, ◌≡◌, List, ◌∷◌, ◌++◌, ◌∙◌, sym, ap, subst, true≢false}
use Rattle.std.specs.Result.{is_ok}
use Rattle.rga_ops.specs.declared.op.Op.{Op}
use Rattle.rga_exchange.specs.Counting.{WritesAllBut}
use Rattle.rga_exchange.specs.RunLines.{runs_text}
use Rattle.rga_exchange.proofs.BegunLemmas.{begun_part}
use Rattle.rga_exchange.proofs.RunLineLaws.{begun_front}
use Rattle.rga_exchange.proofs.runs.push_runs.Goals as goal

pub returns-in_err-count-clause-begun : goal.returns-in_err-count-clause-begun
returns-in_err-count-clause-begun g c = begun_part _ _ _ _ _ _ _ c.lines.invariant.begun c.in_err-count.ensures.begun

pub lines-preserved : goal.lines-preserved
lines-preserved g c =
    let parts : c.lines.rest.now ≡ c.in-Some.op.now ∷ c.in-Some.behind.now = search rules in
    let was = subst (λ (os : List Op). WritesAllBut g.W.Write.contents c.args.writer.now c.lines.writer (c.args.block.now ++ runs_text c.args.ops.now) (c.lines.block ++ runs_text os)) parts c.lines.invariant.begun in
    let step = begun_front _ _ _ _ _ c.lines.block c.push_front.new.block c.in-Some.op.now c.in-Some.behind.now c.in_ok-count.count c.in_ok-count.ensures.count was c.in_ok-count.ensures.ok in
    record {
      begun = subst (λ (os : List Op). WritesAllBut g.W.Write.contents c.args.writer.now c.push_front.new.writer (c.args.block.now ++ runs_text c.args.ops.now) (c.push_front.new.block ++ runs_text os)) (sym c.split_at.ensures.back) step;
      unfailed = c.in_ok-count.ensures.device.unfailed (λ e. true≢false (ap is_ok e)) ∙ c.lines.invariant.unfailed;
    }
