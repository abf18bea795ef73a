use Rattle.std.proofs.Common.{arith, sym, ◌+◌, ◌-◌, ◌∙◌}
use Rattle.mg_plain.specs.Steps.{step}
use Rattle.mg_plain.proofs.StepLaws.{up_to_on}
use Rattle.mg_plain.proofs.steps.steps_up_to.Goals as goal

pub loop-i-preserved : goal.loop-i-preserved
loop-i-preserved c = record {
  same = c.loop-i.invariant.same ∙ up_to_on (step c.args.piece c.args.direction c.args.text.now) (c.args.count - c.loop-i._i) (c.args.count - (c.loop-i._i + 1)) c.loop-i.q c.in-Some.next (omega (arith, c.loop-i-test.true)) (sym c.in-Some.ensures.step);
  within = c.in-Some.ensures.within;
}
