use Rattle.std.proofs.Common.{arith, sym, ◌+◌, ◌-◌, ◌∙◌}
use Rattle.mg_plain.specs.Steps.{step}
use Rattle.mg_plain.proofs.StepLaws.{step_on}
use Rattle.mg_plain.proofs.steps.steps.Goals as goal

pub loop-i-preserved : goal.loop-i-preserved
loop-i-preserved c = record {
  same = c.loop-i.invariant.same ∙ step_on (step c.args.piece c.args.direction c.args.text.now) (c.args.count - c.loop-i._i) (c.args.count - (c.loop-i._i + 1)) c.loop-i.q c.in-Some.next (omega (arith, c.loop-i-test.true)) (sym c.in-Some.ensures.step);
  within = c.in-Some.ensures.within;
}
