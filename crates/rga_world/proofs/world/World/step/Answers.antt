use Rattle.std.proofs.Common.{subst}
use Rattle.rga_world.specs.Sites.{World}
use Rattle.rga_world.specs.Outcomes.{MayWantMemory}
use Rattle.rga_world.proofs.SiteSteps.{step_reached, step_conflict}
use Rattle.rga_world.proofs.world.World.step.Goals as goal

pub invariant_of-self : goal.invariant_of-self
invariant_of-self g c = step_reached c.step.result c.self.inside.sites c.step.new.self c.args.event.now c.self.invariant c.puts_characters.ensures c.step.ensures.happens

pub returns-clause-no_conflict : goal.returns-clause-no_conflict
returns-clause-no_conflict g c id = step_conflict c.step.result c.self.inside.sites c.step.new.self c.args.event.now id c.self.invariant c.step.ensures.happens

pub returns-clause-memory : goal.returns-clause-memory
returns-clause-memory g c memory = subst (λ (w : World). MayWantMemory w c.args.event.now) c.self.view_is (c.step.ensures.memory memory)
